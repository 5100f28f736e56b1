-- What is known of every answer to a document.
use Rattle.std.proofs.Common.{ℕ, List, inl, inr, Option, Some, None, sym, subst}
use Rattle.policy_gate.specs.Answer.{IsAnswer, IsRefusedOr, IsWork, refusal}
use Rattle.policy_gate.specs.Reply.{Answer}
use Rattle.policy_gate.specs.Status.{IsOfDocument}
use Rattle.std.specs.Prelude.{IfSome}
use Rattle.policy_gate.specs.declared.command.Command.{Command}
use Rattle.policy_gate.specs.declared.command.Command.TheVariants.{Live}
use Rattle.policy_gate.specs.declared.status.Status.{Status}
use Rattle.policy_gate.specs.declared.status.Status.TheVariants as status
use Rattle.policy_gate.proofs.Says.{IsRefusal, IsRefusalOf, refuses}

abbrev IsOf : Answer → Type 0
IsOf a = IsOfDocument a.status

of_plain : (s : Status) → IsRefusal s → IsOfDocument s
of_plain status.PartialRequest h = tt
of_plain status.Request h = tt
of_plain status.Store h = tt
of_plain status.Findings h = tt
of_plain s h = absurd h

of_refusal : (c : Command) (s : Status) → IsRefusalOf c s → IsOfDocument s
of_refusal Live s h = subst IsOfDocument (sym h) tt
of_refusal c s h = of_plain s h

of_answer : (c : Command) (r : Option Answer) (W : List ℕ → Type 0) (a : Answer) → IfSome r (λ b. IsRefusalOf c b.status) → IsRefusedOr r W a → IsOf a
of_answer c None W a h is = subst IsOfDocument (sym is.0) tt
of_answer c (Some r) W a h is = subst IsOf (sym is) (of_refusal c r.status h)

-- the bytes of a document alone decide on the status of its answer
pub status_of_document : (c : Command) (bytes : List ℕ) (a : Answer) → IsAnswer c bytes a → IsOfDocument a.status
unfolding IsAnswer
status_of_document c bytes a (inl (place, reads, is)) = subst IsOf (sym is) tt
status_of_document c bytes a (inr (d, reads, made, is)) = of_answer c (refusal c d) (IsWork c d) a (refuses c d) is
