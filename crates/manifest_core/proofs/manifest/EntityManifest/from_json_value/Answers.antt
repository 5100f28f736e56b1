use Rattle.std.proofs.Common.{IsSome, option_map, refl, sym, subst, ap, ◌∙◌}
use Rattle.serde_json.specs.View.{view}
use Rattle.manifest_core.specs.Reading.{entries_of}
use Rattle.manifest_core.proofs.Saying.{repeated_said}
use Rattle.manifest_core.proofs.manifest.EntityManifest.from_json_value.Goals as goal

pub returns-in-Some-2 : goal.returns-in-Some-2
returns-in-Some-2 c =
    repeated_said (entries_of (view c.args.value.now)) c.in-Some.entries.items (ap (option_map (λ v. v.items)) (sym c.in-Some.is) ∙ c.in_ok-entries.ensures)
    (λ once. let (t, twice) = rw c.as_slice.ensures.value at (c.in_ok-repeated_type.ensures.0 (subst IsSome (sym c.in-Some-2.is) refl)) in once t twice)
