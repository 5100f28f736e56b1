use Rattle.std.proofs.Common.{◌≡◌, ◌↔◌, Bool, true, false, true≢false, IsTrue, refl, sym}
use Rattle.policy_gate.proofs.command.is_type.Goals as goal

same_test : (a b : Bool) (P : Type 0) → (IsTrue a ↔ P) → (IsTrue b ↔ P) → a ≡ b
same_test true true P f g = refl
same_test false false P f g = refl
same_test true false P f g = absurd (true≢false (sym (g.1 (f.0 refl))))
same_test false true P f g = absurd (true≢false (sym (f.1 (g.0 refl))))

pub returns : goal.returns
returns c = same_test _ _ _ c.is_name.ensures (c.names_are_reported.ensures c.args.word.now)
