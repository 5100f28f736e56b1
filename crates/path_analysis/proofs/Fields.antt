-- The shape that a map has under a name.
use Rattle.std.proofs.Common.{◌≡◌, ℕ, Bool, true, false, List, [], ◌∷◌, Option, Some, None, cond, refl, sym, ap, ◌∙◌}
use Rattle.std.specs.Map.{lookup}
use Rattle.std.specs.BTreeMap.{is_at}
use Rattle.policy_values.specs.Uid.{text_cmp}
use Rattle.reads_spec.specs.Paths.{Shape, no_shape, shape_at}
use Rattle.path_analysis.specs.ShapeView.{field_shapes}

abbrev or_nothing : Option Shape → Shape
or_nothing None = no_shape
or_nothing (Some a) = a

choose : (b : Bool) (a : Shape) (o : Option Shape) (r : Shape) → or_nothing o ≡ r → or_nothing (cond b (Some a) o) ≡ cond b a r
choose true a o r h = refl
choose false a o r h = h

at_name : (es : List (List ℕ × Shape)) (n : List ℕ) → or_nothing (lookup (is_at (text_cmp n)) es) ≡ shape_at (field_shapes es) n
at_name [] n = refl
at_name (e ∷ es) n = choose (is_at (text_cmp n) e.0) e.1 (lookup (is_at (text_cmp n)) es) (shape_at (field_shapes es) n) (at_name es n)

pub shape_found : (es : List (List ℕ × Shape)) (n : List ℕ) (a : Shape) → lookup (is_at (text_cmp n)) es ≡ Some a → a ≡ shape_at (field_shapes es) n
shape_found es n a h = ap or_nothing (sym h) ∙ at_name es n

pub shape_missing : (es : List (List ℕ × Shape)) (n : List ℕ) → lookup (is_at (text_cmp n)) es ≡ None → no_shape ≡ shape_at (field_shapes es) n
shape_missing es n h = ap or_nothing (sym h) ∙ at_name es n
