-- What the words of a call ask for.
use Rattle.std.specs.Prelude.{ℕ, List, [], ◌∷◌, if◌then◌else◌, Option, Some, None, nat_lt, option_map, option_and_then, codes}
use Rattle.std.specs.Str.{bytes_eq}
use Rattle.policy_ext.specs.NumberReading.{plain_of}
use Rattle.policy_values.specs.declared.entity_uid.EntityUID.{EntityUID}
use Rattle.json_values.specs.Names.{name_of_text, uid_of_parts}
use Rattle.json_document.specs.declared.shape.Shape.{Shape}
use Rattle.json_document.specs.declared.shape.Shape.TheVariants as shape
use Rattle.json_samples.specs.Sample.{sample_document}
use Rattle.policy_gate.specs.declared.command.Command.{Command}
use Rattle.policy_gate.specs.declared.command.Command.TheVariants.{Check, Level, Request, Manifest, Slice, Decide, Sample, Batch, Live, Review, List as Page}

-- a command of one word
abbrev pub one_word : List ℕ → Option Command
one_word word =
    if bytes_eq word (codes "check") then Some Check else
    (if bytes_eq word (codes "request") then Some Request else
    (if bytes_eq word (codes "manifest") then Some Manifest else
    (if bytes_eq word (codes "slice") then Some Slice else
    (if bytes_eq word (codes "decide") then Some Decide else
    (if bytes_eq word (codes "batch") then Some Batch else
    (if bytes_eq word (codes "live") then Some Live else
    (if bytes_eq word (codes "review") then Some Review else None)))))))

-- a size of documents that are made, and a limit of pages: 1 to 10000, of digits with no zero before
-- others
abbrev pub size_of : List ℕ → Option ℕ
size_of digits = option_and_then (λ n. if nat_lt 0 n then Some n else None) (plain_of 10000 digits)

-- a command of two words: a level is a number, up to 200, written in the same way; a first page has a limit
abbrev pub two_words : List ℕ → List ℕ → Option Command
two_words word other =
    if bytes_eq word (codes "level") then option_map Level (plain_of 200 other) else
    (if bytes_eq word (codes "list") then option_map (λ n. Page n None) (size_of other) else None)

-- a command of three words: a sample is of a seed of 64 bits, written in the same way, and a size
abbrev pub three_words : List ℕ → List ℕ → List ℕ → Option Command
three_words word seed size =
    if bytes_eq word (codes "sample")
    then option_and_then (λ n. option_map (Sample n) (size_of size)) (plain_of 18446744073709551615 seed)
    else None

-- the id of a type and an eid, where the first word is a name
abbrev pub uid_of_words : List ℕ → List ℕ → Option EntityUID
uid_of_words name eid = uid_of_parts (name_of_text name) (Some eid)

-- a page with a limit that comes after an id
abbrev pub page_after : List ℕ → List ℕ → List ℕ → Option Command
page_after limit name eid =
    option_and_then (λ n. option_map (λ u. Page n (Some u)) (uid_of_words name eid)) (size_of limit)

-- a command of four words: such a page
abbrev pub four_words : List ℕ → List ℕ → List ℕ → List ℕ → Option Command
four_words word limit name eid = if bytes_eq word (codes "list") then page_after limit name eid else None

-- the command that the words are, if they are one
abbrev pub command_of : List (List ℕ) → Option Command
command_of [] = None
command_of (word ∷ []) = one_word word
command_of (word ∷ other ∷ []) = two_words word other
command_of (word ∷ seed ∷ size ∷ []) = three_words word seed size
command_of (word ∷ limit ∷ name ∷ eid ∷ []) = four_words word limit name eid
command_of (word ∷ limit ∷ name ∷ eid ∷ more ∷ words) = None

-- the document that a command has of its own: that of a seed and a size; the others read one
abbrev pub own_document : Command → Option (List ℕ)
own_document (Sample seed size) = Some (sample_document seed size)
own_document Check = None
own_document (Level n) = None
own_document Request = None
own_document Manifest = None
own_document Slice = None
own_document Decide = None
own_document Batch = None
own_document Live = None
own_document Review = None
own_document (Page n after) = None

-- what a document for a command asks about: one request, but for many at once, or for edits
abbrev pub shape_of : Command → Shape
shape_of Batch = shape.Batch
shape_of Live = shape.Live
shape_of c = shape.Whole
