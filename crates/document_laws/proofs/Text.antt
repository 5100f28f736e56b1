-- The text is what is printed of the sample's JSON.
use Rattle.std.proofs.Common.{◌≡◌, ℕ, ◌+◌, ◌%◌, ◌<◌, ◌^◌, Bool, true, false, List, [], ◌∷◌, ◌++◌, map, decimal, refl, sym, ap, ◌∙◌, arith, append_assoc}
use Rattle.std.specs.Prelude.{codes}
use Rattle.std.specs.List.{join_with_byte}
use Rattle.std.proofs.lemmas.Fmt.{decimal_by_steps}
use Rattle.std.proofs.lemmas.Grind.{flat_map-append}
use Rattle.json.specs.Token.{Token}
use Rattle.json.specs.Json as json
use Rattle.json.specs.Print.{escape, escape_byte, print_from, print, separator}
use Rattle.json.specs.Tree.{json_tokens, items_tokens}
use Rattle.json.proofs.Printed.Strings.{escape_byte_plain}
use Rattle.json_samples.specs.Sample.{user_text, sample_schema, sample_policies, sample_request}
use Rattle.document_laws.proofs.Drawn.{Drawn, IsDrawn, AreDrawn, text_of}
use Rattle.document_laws.proofs.Json.{user_json, json_of_user, users_json, sample_json}

-- digits need no escape
digit_plain : (n : ℕ) → n < 10 → escape ((48 + n) ∷ []) ≡ (48 + n) ∷ []
digit_plain n h = ap (λ l. l ++ []) (escape_byte_plain (48 + n) (λ e. omega arith) (λ e. omega arith) (omega arith))

plain : (n : ℕ) → n < 2 ^ 64 → escape (decimal n) ≡ decimal n
plain = decimal_by_steps (λ n ds. escape ds ≡ ds) digit_plain
    (λ n ds big same. flat_map-append escape_byte ds ((48 + n % 10) ∷ []) ∙ ap (λ l. l ++ escape ((48 + n % 10) ∷ [])) same ∙ ap (λ l. ds ++ l) (digit_plain (n % 10) (omega arith)))

-- a text that needs no escape, up to its quote and on
quoted_then : (s : List ℕ) → escape s ≡ s → (r : List ℕ) → (escape s ++ 34 ∷ []) ++ r ≡ s ++ (34 ∷ r)
quoted_then s e r = append_assoc (escape s) (34 ∷ []) r ∙ ap (λ t. t ++ (34 ∷ r)) e

abbrev in_a_row : List ℕ → List ℕ → List ℕ → List ℕ → List ℕ → List ℕ → List ℕ → List ℕ → List ℕ → List ℕ
in_a_row a i b l c m d g e = a ++ (i ++ (b ++ (l ++ (c ++ (m ++ (d ++ (g ++ e)))))))

on_and_on : (a i b l c m d g e x : List ℕ) → in_a_row a i b l c m d g (e ++ x) ≡ in_a_row a i b l c m d g e ++ x
on_and_on a i b l c m d g e x = simp append_assoc refl

abbrev made : List ℕ → List ℕ → List ℕ → List ℕ → List ℕ → List ℕ
made i level manager group e =
    in_a_row (codes "{\"id\":[\"User\",\"u") i (codes "\"],\"attrs\":{\"level\":") level (codes ",\"manager\":{\"id\":[\"User\",\"u") manager (codes "\"]}},\"parents\":[[\"Group\",\"g") group e

digits_printed : (c : Bool) (i level manager group : List ℕ) → escape i ≡ i → escape manager ≡ manager → escape group ≡ group → (rest : List Token)
    → print_from c (json_tokens (user_json i level manager group) ++ rest) ≡ separator c Token.begin_object ++ made i level manager group (codes "\"]]}" ++ print_from true rest)
unfolding print_from escape_byte
digits_printed c i level manager group a b d rest =
    λ k. separator c Token.begin_object ++ (codes "{\"id\":[\"User\",\"u" ++ quoted_then i a (codes "],\"attrs\":{\"level\":" ++ (level ++ (codes ",\"manager\":{\"id\":[\"User\",\"u"
    ++ quoted_then manager b (codes "]}},\"parents\":[[\"Group\",\"g" ++ quoted_then group d (codes "]]}" ++ print_from true rest) k) k))) k)

user_printed : (c : Bool) (u : Drawn) → IsDrawn u → (rest : List Token)
    → print_from c (json_tokens (json_of_user u) ++ rest) ≡ separator c Token.begin_object ++ (text_of u ++ print_from true rest)
unfolding user_text
user_printed c u h rest =
    digits_printed c (decimal u.number) (decimal u.level) (decimal u.manager) (decimal u.group) (plain u.number h.number) (plain u.manager h.manager) (plain u.group (omega (arith, h.group))) rest
    ∙ ap (λ l. separator c Token.begin_object ++ l)
    (on_and_on (codes "{\"id\":[\"User\",\"u") (decimal u.number) (codes "\"],\"attrs\":{\"level\":") (decimal u.level) (codes ",\"manager\":{\"id\":[\"User\",\"u") (decimal u.manager) (codes "\"]}},\"parents\":[[\"Group\",\"g") (decimal u.group) (codes "\"]]}") (print_from true rest))

users_printed : (c : Bool) (u : Drawn) (us : List Drawn) → AreDrawn (u ∷ us) → (rest : List Token)
    → print_from c (items_tokens (users_json (u ∷ us)) ++ rest) ≡ separator c Token.begin_object ++ (join_with_byte 44 (map text_of (u ∷ us)) ++ (93 ∷ print_from true rest))
unfolding print_from
users_printed c u [] h rest =
    ap (print_from c) (append_assoc (json_tokens (json_of_user u)) (items_tokens json.no_items) rest) ∙ user_printed c u h.0 (Token.end_array ∷ rest)
users_printed c u (v ∷ us) h rest =
    let more : List Token = items_tokens (users_json (v ∷ us)) in
    ap (print_from c) (append_assoc (json_tokens (json_of_user u)) more rest)
    ∙ user_printed c u h.0 (more ++ rest)
    ∙ ap (λ l. separator c Token.begin_object ++ (text_of u ++ l)) (users_printed true v us h.1 rest)
    ∙ ap (λ l. separator c Token.begin_object ++ l) (sym (append_assoc (text_of u) (44 ∷ join_with_byte 44 (map text_of (v ∷ us))) (93 ∷ print_from true rest)))

all_printed : (us : List Drawn) → AreDrawn us → (rest : List Token)
    → print_from false (items_tokens (users_json us) ++ rest) ≡ join_with_byte 44 (map text_of us) ++ (93 ∷ print_from true rest)
unfolding print_from
all_printed [] h rest = refl
all_printed (u ∷ us) h rest = users_printed false u us h rest

five : (o r e j c : List ℕ) → o ++ (r ++ (e ++ (j ++ c))) ≡ (((o ++ r) ++ e) ++ j) ++ c
five o r e j c = simp append_assoc refl

pub printed : (other : ℕ) → other < 2 ^ 64 → (us : List Drawn) → AreDrawn us
    → print (json_tokens (sample_json (decimal other) us)) ≡ sample_schema ++ sample_policies ++ sample_request other ++ codes ",\"entities\":[" ++ join_with_byte 44 (map text_of us) ++ codes "]}"
unfolding print_from escape_byte sample_schema sample_policies sample_request
printed other small us h =
    let prefix : List ℕ = codes ",\"request\":{\"principal\":[\"User\",\"u0\"],\"action\":[\"Action\",\"view\"],\"resource\":[\"User\",\"u" in
    let before : List ℕ → List ℕ = λ t. sample_schema ++ (sample_policies ++ (prefix ++ t)) in
    let same = all_printed us h (Token.end_object ∷ []) in
    (λ k. before (quoted_then (decimal other) (plain other small) (codes "],\"context\":{}},\"entities\":[" ++ same k) k))
    ∙ ap before (five (decimal other) (codes "\"],\"context\":{}}") (codes ",\"entities\":[") (join_with_byte 44 (map text_of us)) (codes "]}"))
