-- Line feeds.
use Rattle.std.specs.Prelude.{ℕ, ◌==◌, Bool, not, List}
use Rattle.std.specs.List.{count_by, list_all}
use Rattle.base_model.specs.Ascii.{line_feed}
use Rattle.base_model.specs.Text.{Characters}

-- how many a text holds, or its bytes
unfoldable pub line_feeds : List ℕ → ℕ
line_feeds text = count_by (λ c. c == line_feed) text

-- whether a text can stand within a line: it holds none
abbrev pub is_within_line : Characters → Bool
is_within_line text = list_all (λ c. not (c == line_feed)) text
