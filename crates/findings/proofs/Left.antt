-- Steps of loops that write.
use Rattle.std.proofs.Common.{◌≡◌, ℕ, List, [], ◌++◌, ap, ◌∙◌, sym, refl}
use Rattle.std.proofs.lemmas.List.{append_assoc}
use Rattle.std.specs.Fmt.{HasWritten, IsPlainFormatter}
use Rattle.std.specs.declared.fmt.Formatter.{Formatter}
use Rattle.std.proofs.Output.{has_written_append}

module _ {W : Type 0} (took : W → List ℕ → W → Type 0) where
  -- of all that f is to get, g has got it but for what is left
  pub record IsLeft (f : Formatter W) (all left : List ℕ) (g : Formatter W) : Type 0 where
    pub done : List ℕ
    pub whole : done ++ left ≡ all
    pub wrote : HasWritten took f done g

  pub left_all : (f : Formatter W) (all : List ℕ) → IsPlainFormatter f → IsLeft f all all f
  left_all f all p = record { done = []; whole = refl; wrote = record { wrote = record { parts = []; calls = refl; whole = refl }; plain = p } }

  pub left_less : (f g h : Formatter W) (all left more x : List ℕ) → IsLeft f all left g → left ≡ x ++ more → HasWritten took g x h → IsLeft f all more h
  left_less f g h all left more x s e w = record {
    done = s.done ++ x;
    whole = append_assoc s.done x more ∙ ap (λ ys. s.done ++ ys) (sym e) ∙ s.whole;
    wrote = has_written_append took f s.done g x h s.wrote w;
  }
