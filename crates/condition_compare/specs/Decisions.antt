-- Decisions by conditions.
use Rattle.std.specs.Prelude.{◌≡◌, Bool, true, not, ◌&&◌, ◌||◌, List, [], ◌∷◌, if◌then◌else◌}
use Rattle.condition_truth.specs.Outlined.{asked_of}
use Rattle.condition_truth.specs.Outlines.{Sides, outline}
use Rattle.condition_compare.specs.Worlds.{World}
use Rattle.condition_compare.specs.declared.condition.Condition.{Condition}

-- that a condition is true, and that it is false
abbrev pub sides_in : World → Condition → Sides
sides_in w c = outline (asked_of w.request w.store) c.typed

-- whether one permits, or one permitted before
abbrev pub permits_after : World → Bool → List Condition → Bool
permits_after w b [] = b
permits_after w b (c ∷ cs) = permits_after w (if c.permits then b || (sides_in w c).yes else b) cs

-- whether one forbids, or one forbade before
abbrev pub forbids_after : World → Bool → List Condition → Bool
forbids_after w b [] = b
forbids_after w b (c ∷ cs) = forbids_after w (if c.permits then b else b || (sides_in w c).yes) cs

-- whether the decision is Allow: one permits, of these or of those that are shared, and none forbids
abbrev pub allows : World → List Condition → Bool
allows w cs = permits_after w w.permitted cs && not (forbids_after w w.forbidden cs)

-- it is Allow after only where it is before
abbrev pub AllowsAtMost : List Condition → List Condition → Type 0
AllowsAtMost before after = (w : World) → allows w after ≡ true → allows w before ≡ true
