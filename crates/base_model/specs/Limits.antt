-- The limits of a job, each by its name.
use Rattle.std.specs.Prelude.{ℕ}

-- bytes of an input
abbrev pub input_limit : ℕ
input_limit = 67_108_864

-- elements of a document
abbrev pub element_limit : ℕ
element_limit = 65_536

-- levels of a document, where the root has depth 1
abbrev pub depth_limit : ℕ
depth_limit = 256

-- attributes of an element
abbrev pub attribute_limit : ℕ
attribute_limit = 64

-- bytes of an attribute's value
abbrev pub value_limit : ℕ
value_limit = 1_048_576

-- bytes of a name: a tag, or the name of an attribute
abbrev pub name_limit : ℕ
name_limit = 256

-- style sheets of a document
abbrev pub sheet_limit : ℕ
sheet_limit = 256

-- bytes of a sheet's text
abbrev pub text_limit : ℕ
text_limit = 4_194_304

-- numbers ever given to elements, or to sheets
abbrev pub number_limit : ℕ
number_limit = 4_000_000

-- batches of a job
abbrev pub batch_limit : ℕ
batch_limit = 10_000

-- pixels of the width of a device, and of its height
abbrev pub device_limit : ℕ
device_limit = 1_000_000
