-- What is read of expressions that may be nested too deep is what reading them at any depth gives, bounded.
use Rattle.std.proofs.Common.{◌≡◌, ◌<◌, ◌↔◌, List, [], ◌∷◌, length, map, Bool, true, false, Option, Some, None, option_map, Result, Ok, Err, IfOk, arith, refl, ap, ◌∙◌}
use Rattle.std.specs.Prelude.{nat_lt, option_and_then, if◌then◌else◌}
use Rattle.std.proofs.lemmas.Bool.Decides.{nat_tests}
use Rattle.policy_expressions.specs.Tree.{depth_of}
use Rattle.policy_expressions.specs.declared.expr.BuildError.{BuildError}
use Rattle.policy_expressions.specs.declared.expr.BuildError.TheVariants as build
use Rattle.policy_expressions.specs.Plain.{Plain}
use Rattle.json_expressions.specs.Forms.{join_tree}
use Rattle.json_expressions.specs.Reads.{bounded, on_two}
use Rattle.json_expressions.specs.declared.forms.Junction.{Junction}
use Rattle.json_expressions.specs.declared.forms.Junction.TheVariants.{All}
use Rattle.json_expressions.specs.declared.nesting.Bounded.TheVariants.{Within, Nested}
use Rattle.json_expressions.proofs.Bounds.{join_read}
use Rattle.json_document.specs.Body.{behind, conjunction, left_fold, or_anything, or_true}

behind_read : (j : Junction) (o : Option Plain) (y : Plain) → behind (on_two (join_tree j)) (option_map bounded o) (bounded y) ≡ bounded (behind (join_tree j) o y)
behind_read j None y = refl
behind_read j (Some x) y = join_read j x y

folded : (j : Junction) (o : Option Plain) (ys : List Plain) → left_fold (on_two (join_tree j)) (option_map bounded o) (map bounded ys) ≡ option_map bounded (left_fold (join_tree j) o ys)
folded j o [] = refl
folded j o (y ∷ ys) = ap (λ r. left_fold (on_two (join_tree j)) (Some r) (map bounded ys)) (behind_read j o y) ∙ folded j (Some (behind (join_tree j) o y)) ys

or_true_read : (o : Option Plain) → or_true (option_map bounded o) ≡ bounded (or_anything o)
or_true_read None = refl
or_true_read (Some x) = refl

pub clauses_read : (os : Option (List Plain)) → option_map (λ cs. or_true (left_fold (on_two (join_tree All)) None (map bounded cs))) os ≡ option_map bounded (option_map (λ cs. or_anything (left_fold conjunction None cs)) os)
clauses_read None = refl
clauses_read (Some cs) = ap Some (ap or_true (folded All None cs) ∙ or_true_read (left_fold conjunction None cs))

-- where nothing is read, there is nothing
pub none_read : (o : Option Plain) → None ≡ option_map bounded o → o ≡ None
none_read None e = refl
none_read (Some x) e = cc
