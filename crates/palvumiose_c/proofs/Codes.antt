-- What the number of a status says of it.
use Rattle.std.proofs.Common.{◌≡◌, ℕ, ◌⊎◌, inl, inr, ap, refl, ◌∙◌, arith}
use Rattle.policy_gate.specs.Status.{code_of}
use Rattle.policy_gate.specs.declared.status.Status.{Status}
use Rattle.policy_gate.specs.declared.status.Status.TheVariants.{Done, Findings, Usage, Document, Request, Store, PartialRequest, ReadFault, WriteFault, OutOfMemory, TooLong, Edit}

-- 0 is of `Done` alone
pub done_from_code : (s : Status) → code_of s ≡ 0 → s ≡ Done
done_from_code Done e = refl
done_from_code Findings e = absurd (omega (arith, e))
done_from_code Usage e = absurd (omega (arith, e))
done_from_code Document e = absurd (omega (arith, e))
done_from_code Request e = absurd (omega (arith, e))
done_from_code Store e = absurd (omega (arith, e))
done_from_code PartialRequest e = absurd (omega (arith, e))
done_from_code ReadFault e = absurd (omega (arith, e))
done_from_code WriteFault e = absurd (omega (arith, e))
done_from_code OutOfMemory e = absurd (omega (arith, e))
done_from_code TooLong e = absurd (omega (arith, e))
done_from_code Edit e = absurd (omega (arith, e))

-- 1 is of `Findings` alone
pub findings_from_code : (s : Status) → code_of s ≡ 1 → s ≡ Findings
findings_from_code Findings e = refl
findings_from_code Done e = absurd (omega (arith, e))
findings_from_code Usage e = absurd (omega (arith, e))
findings_from_code Document e = absurd (omega (arith, e))
findings_from_code Request e = absurd (omega (arith, e))
findings_from_code Store e = absurd (omega (arith, e))
findings_from_code PartialRequest e = absurd (omega (arith, e))
findings_from_code ReadFault e = absurd (omega (arith, e))
findings_from_code WriteFault e = absurd (omega (arith, e))
findings_from_code OutOfMemory e = absurd (omega (arith, e))
findings_from_code TooLong e = absurd (omega (arith, e))
findings_from_code Edit e = absurd (omega (arith, e))

-- the numbers of the two ends that there are where every rule holds
pub code_of_either : (s : Status) (n : ℕ) → n ≡ code_of s → (s ≡ Done) ⊎ (s ≡ OutOfMemory) → (n ≡ 0) ⊎ (n ≡ 10)
code_of_either s n is (inl e) = inl (is ∙ ap code_of e)
code_of_either s n is (inr e) = inr (is ∙ ap code_of e)
