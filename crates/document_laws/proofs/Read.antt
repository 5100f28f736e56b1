-- The text is JSON, of the sample's value.
use Rattle.std.proofs.Common.{◌≡◌, ℕ, ◌-◌, ◌<◌, ◌≤◌, ◌^◌, List, [], ◌∷◌, ◌++◌, true, Some, None, option_and_then, decimal, refl, sym, ap, ◌∙◌, arith, append-nil}
use Rattle.std.specs.Prelude.{codes, if◌then◌else◌}
use Rattle.std.specs.Str.{is_utf8}
use Rattle.std.proofs.lemmas.Str.{is_utf8-from_IsUtf8}
use Rattle.json.specs.Json as json
use Rattle.json.specs.Json.{if_last, value}
use Rattle.json.specs.Print.{print}
use Rattle.json.specs.Tree.{json_tokens, depth, items_depth, HasNumbers, ItemsHaveNumbers}
use Rattle.json.proofs.Printed.Decimals.{IsNumber-decimal}
use Rattle.json.proofs.Printed.Tokens.{tokens-print}
use Rattle.json.proofs.Printed.Trees.{value-json_tokens, ArePrintable-json_tokens}
use Rattle.json_samples.specs.Sample.{sample_document, sample_schema, sample_policies, sample_request}
use Rattle.json_values.specs.Json.{json_of}
use Rattle.serde_json.specs.Data.{Data}
use Rattle.serde_json.specs.Read.{read, max_depth, of_json, of_items}
use Rattle.serde_json.proofs.Numbers.{number_of-decimal}
use Rattle.document_laws.proofs.Drawn.{Drawn, IsDrawn, AreDrawn, users_from, are_drawn, texts_are}
use Rattle.document_laws.proofs.Json.{schema_json, policies_json, json_of_user, users_json, sample_json, user_data, users_data, sample_data}
use Rattle.document_laws.proofs.Text.{printed}
use Rattle.document_laws.proofs.Ascii.{sample_utf8}

-- what is printed of JSON is read as what the JSON says
read_printed : (j : json.Json) (d : Data) → HasNumbers j → depth j ≤ max_depth → of_json j ≡ Some d → read (print (json_tokens j)) ≡ Some d
read_printed j d numbers shallow same =
    ap (λ o. option_and_then of_json (option_and_then (λ p. if_last p.0 p.1) o))
    (ap (value max_depth) (tokens-print (json_tokens j) (ArePrintable-json_tokens j numbers) ∙ sym (append-nil (json_tokens j))) ∙ value-json_tokens j max_depth [] shallow)
    ∙ same

user_numbers : (u : Drawn) → IsDrawn u → HasNumbers (json_of_user u)
user_numbers u h = ((tt, (tt, tt)), ((IsNumber-decimal u.level (omega (arith, h.level)), (((tt, (tt, tt)), tt), tt)), (((tt, (tt, tt)), tt), tt)))

users_numbers : (us : List Drawn) → AreDrawn us → ItemsHaveNumbers (users_json us)
users_numbers [] h = tt
users_numbers (u ∷ us) h = (user_numbers u h.0, users_numbers us h.1)

user_read : (u : Drawn) → IsDrawn u → of_json (json_of_user u) ≡ Some (user_data u)
user_read u h = rw (number_of-decimal u.level (omega (arith, h.level))) refl

users_read : (us : List Drawn) → AreDrawn us → of_items (users_json us) ≡ Some (users_data us)
users_read [] h = refl
users_read (u ∷ us) h = rw (user_read u h.0) (rw (users_read us h.1) refl)

users_depth : (us : List Drawn) → items_depth (users_json us) ≤ 4
users_depth [] = omega arith
users_depth (u ∷ us) = omega (arith, users_depth us)

schema_numbers : HasNumbers schema_json
schema_numbers = ((tt, (((tt, tt), ((tt, ((tt, tt), tt)), tt)), tt)), ((((tt, (tt, tt)), ((tt, tt), ((tt, tt), tt))), tt), tt))

policies_numbers : HasNumbers policies_json
policies_numbers = ((tt, (tt, (((((((((tt, tt), (tt, (tt, tt))), tt), ((((tt, tt), (tt, tt)), tt), tt)), tt), tt), tt), tt)))), ((tt, (tt, (((tt, (tt, tt)), tt), tt))), tt))

sample_numbers : (other : List ℕ) (us : List Drawn) → AreDrawn us → HasNumbers (sample_json other us)
sample_numbers other us h = (schema_numbers, (policies_numbers, (((tt, (tt, tt)), ((tt, (tt, tt)), ((tt, (tt, tt)), (tt, tt)))), (users_numbers us h, tt))))

sample_depth : (other : List ℕ) (us : List Drawn) → depth (sample_json other us) ≤ max_depth
sample_depth other us = omega (arith, users_depth us)

sample_read : (other : List ℕ) (us : List Drawn) → AreDrawn us → of_json (sample_json other us) ≡ Some (sample_data other us)
sample_read other us h = rw (users_read us h) refl

-- the value of the text of a seed and a size
abbrev pub value_of_sample : ℕ → ℕ → Data
value_of_sample seed size = sample_data (decimal (size - 1)) (users_from seed size 0 size)

pub sample_is_json : (seed size : ℕ) → size < 2 ^ 64 → json_of (sample_document seed size) ≡ Some (value_of_sample seed size)
unfolding json_of
sample_is_json seed size small =
    let us = users_from seed size 0 size in
    let h = are_drawn seed size 0 size small (omega arith) in
    let other : size - 1 < 2 ^ 64 = omega arith in
    let same : sample_document seed size ≡ print (json_tokens (sample_json (decimal (size - 1)) us)) = sym (
    printed (size - 1) other us h
    ∙ ap (λ t. sample_schema ++ sample_policies ++ sample_request (size - 1) ++ codes ",\"entities\":[" ++ t ++ codes "]}") (texts_are seed size size)
    ) in
    let valid : is_utf8 (sample_document seed size) ≡ true =
    ap (λ t. is_utf8 (sample_schema ++ sample_policies ++ sample_request (size - 1) ++ codes ",\"entities\":[" ++ t ++ codes "]}")) (sym (texts_are seed size size))
    ∙ is_utf8-from_IsUtf8 _ (sample_utf8 (size - 1) other us h) in
    ap (λ b. if b then read (sample_document seed size) else None) valid
    ∙ ap read same
    ∙ read_printed (sample_json (decimal (size - 1)) us) (value_of_sample seed size) (sample_numbers (decimal (size - 1)) us h) (sample_depth (decimal (size - 1)) us) (sample_read (decimal (size - 1)) us h)
