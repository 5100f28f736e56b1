-- Lines that were answered up to the last one.
use Rattle.std.proofs.Common.{◌≡◌, ℕ, List, Option, sym, subst}
use Rattle.byte_streams.specs.Answering.{AreAnswered}
use Rattle.byte_streams.specs.declared.answering.Ended.{Ended}
use Rattle.byte_streams.specs.declared.answering.Ended.TheVariants as ended
use Rattle.byte_streams.specs.State.{SinkState}

-- nothing was written behind the last answer
pub answered_all : (P : ℕ → Option (List ℕ) → List ℕ → Type 0) (from to : ℕ) (left old : Option (List ℕ)) (mid new : SinkState) (e : Ended) → AreAnswered P from to left old mid.holds e
    → e ≡ ended.Done → new ≡ mid → AreAnswered P from to left old new.holds ended.Done
answered_all P from to left old mid new e h is same =
    subst (λ s. AreAnswered P from to left old s.holds ended.Done) (sym same) (subst (AreAnswered P from to left old mid.holds) is h)
