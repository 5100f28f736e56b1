-- The text is UTF-8.
use Rattle.std.proofs.Common.{ℕ, ◌<◌, ◌^◌, List, [], ◌∷◌, ◌++◌, map, decimal, refl, IsUtf8, arith}
use Rattle.std.specs.Prelude.{codes}
use Rattle.std.specs.List.{join_with_byte}
use Rattle.std.proofs.lemmas.Str.{IsUtf8-append, IsUtf8-nil, IsUtf8-from_ascii}
use Rattle.std.proofs.lemmas.Fmt.{IsAscii-decimal}
use Rattle.json.proofs.Printed.Utf8.{IsUtf8-are_ascii}
use Rattle.json_samples.specs.Sample.{user_text, sample_schema, sample_policies, sample_request}
use Rattle.document_laws.proofs.Drawn.{Drawn, IsDrawn, AreDrawn, text_of}

digits : (n : ℕ) → n < 2 ^ 64 → (rest : List ℕ) → IsUtf8 rest → IsUtf8 (decimal n ++ rest)
digits n small rest h = IsUtf8-append (decimal n) rest (IsUtf8-from_ascii (decimal n) (IsAscii-decimal n small)) h

user_utf8 : (u : Drawn) → IsDrawn u → IsUtf8 (text_of u)
unfolding user_text
user_utf8 u h =
    IsUtf8-append (codes "{\"id\":[\"User\",\"u") _ (IsUtf8-are_ascii _ refl) (digits u.number h.number _
    (IsUtf8-append (codes "\"],\"attrs\":{\"level\":") _ (IsUtf8-are_ascii _ refl) (digits u.level (omega (arith, h.level)) _
    (IsUtf8-append (codes ",\"manager\":{\"id\":[\"User\",\"u") _ (IsUtf8-are_ascii _ refl) (digits u.manager h.manager _
    (IsUtf8-append (codes "\"]}},\"parents\":[[\"Group\",\"g") _ (IsUtf8-are_ascii _ refl) (digits u.group (omega (arith, h.group)) _
    (IsUtf8-are_ascii (codes "\"]]}") refl))))))))

users_utf8 : (us : List Drawn) → AreDrawn us → IsUtf8 (join_with_byte 44 (map text_of us))
users_utf8 [] h = IsUtf8-nil
users_utf8 (u ∷ []) h = user_utf8 u h.0
users_utf8 (u ∷ v ∷ us) h = IsUtf8-append (text_of u) _ (user_utf8 u h.0) (IsUtf8-append (44 ∷ []) _ (IsUtf8-are_ascii (44 ∷ []) refl) (users_utf8 (v ∷ us) h.1))

pub sample_utf8 : (other : ℕ) → other < 2 ^ 64 → (us : List Drawn) → AreDrawn us
    → IsUtf8 (sample_schema ++ sample_policies ++ sample_request other ++ codes ",\"entities\":[" ++ join_with_byte 44 (map text_of us) ++ codes "]}")
unfolding sample_schema sample_policies sample_request
sample_utf8 other small us h =
    let request : IsUtf8 (sample_request other) =
    IsUtf8-append (codes ",\"request\":{\"principal\":[\"User\",\"u0\"],\"action\":[\"Action\",\"view\"],\"resource\":[\"User\",\"u") _ (IsUtf8-are_ascii _ refl) (digits other small _ (IsUtf8-are_ascii (codes "\"],\"context\":{}}") refl)) in
    IsUtf8-append (sample_schema ++ sample_policies ++ sample_request other ++ codes ",\"entities\":[" ++ join_with_byte 44 (map text_of us)) (codes "]}")
    (IsUtf8-append (sample_schema ++ sample_policies ++ sample_request other ++ codes ",\"entities\":[") (join_with_byte 44 (map text_of us))
    (IsUtf8-append (sample_schema ++ sample_policies ++ sample_request other) (codes ",\"entities\":[")
    (IsUtf8-append (sample_schema ++ sample_policies) (sample_request other) (IsUtf8-are_ascii _ refl) request)
    (IsUtf8-are_ascii _ refl))
    (users_utf8 us h))
    (IsUtf8-are_ascii _ refl)
