-- The key of a name: a number by which names are told apart.
use Rattle.std.specs.Prelude.{ℕ, List, ◌++◌, fold, encode_utf8_all}
use Rattle.std.specs.Hash as fed
use Rattle.std.specs.Hash.DefaultHasher as sip
use Rattle.std.specs.declared.hash.DefaultHasher.{DefaultHasher}
use Rattle.layer_model.specs.Name.{Part, named, anonymous, LayerName}

-- what a step feeds to a hash
abbrev pub part_input : Part → List (List ℕ)
part_input (named text) = fed.str (encode_utf8_all text)
part_input (anonymous sheet edition place) = fed.u32 sheet ++ (fed.u32 edition ++ fed.u32 place)

-- a hash once this is fed to it
abbrev pub fed_more : DefaultHasher → List (List ℕ) → DefaultHasher
fed_more state writes = fold sip.write state writes

-- the key of a name with one more part
unfoldable pub key_after : ℕ → Part → ℕ
key_after key part = sip.finish (fed_more (fed_more sip.initial (fed.u64 key)) (part_input part))

-- names with two keys are two names, and names with one key are mostly one
unfoldable pub key_of : LayerName → ℕ
key_of name = fold key_after 0 name
