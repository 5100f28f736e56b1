use Rattle.std.proofs.Common.{Some, ◌≡◌, sym, ap, ◌∙◌}
use Rattle.std.specs.Cmp.{Equal-is, tied_itself}
use Rattle.std.specs.Option.{option_copied}
use Rattle.std.specs.Ordering.{is_eq}
use Rattle.policy_values.specs.Uid.{uid_cmp, uid_cmp_total, exact_uid}
use Rattle.conformance.proofs.store.is_id.Goals as goal

pub returns-in-Some : goal.returns-in-Some
returns-in-Some c =
    let u = c.in-Some.known.now in let v = c.args.uid.now in
    let is : option_copied c.args.known ≡ Some u = ap option_copied c.in-Some.is in (
      λ r. is ∙ ap Some (exact_uid u v ((Equal-is (uid_cmp u v)).0 (sym c.same_id.ensures ∙ r))),
      λ e. let both : Some u ≡ Some v = sym is ∙ e in let same : u ≡ v = cc in c.same_id.ensures ∙ rw same (ap is_eq (tied_itself uid_cmp_total v)),
    )
