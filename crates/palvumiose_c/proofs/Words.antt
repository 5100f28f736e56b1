-- What the words of a command are.
use Rattle.std.proofs.Common.{◌≡◌, ◌==◌, ℕ, List, [], Bool, true, false, ap, sym, refl, if◌then◌else◌}
use Rattle.std.specs.List.{slice_split}
use Rattle.std.specs.Str.{IsUtf8, is_utf8}
use Rattle.std.proofs.lemmas.Str.{is_utf8-from_IsUtf8, IsUtf8-from_is_utf8}
use Rattle.palvumiose_c.specs.KnownText.{words_in}

-- of a text
pub words_in-text : (bytes : List ℕ) → IsUtf8 bytes → slice_split (λ b. b == 0) bytes ≡ words_in bytes
words_in-text bytes is = ap (λ t. if t then slice_split (λ b. b == 0) bytes else []) (sym (is_utf8-from_IsUtf8 bytes is))

-- of other bytes
pub words_in-other : (bytes : List ℕ) → (IsUtf8 bytes → ⊥) → [] ≡ words_in bytes
words_in-other bytes other = ap (λ t. if t then slice_split (λ b. b == 0) bytes else []) (sym (at (is_utf8 bytes) refl))
  where
    at : (t : Bool) → is_utf8 bytes ≡ t → is_utf8 bytes ≡ false
    at true e = absurd (other (IsUtf8-from_is_utf8 bytes e))
    at false e = e
