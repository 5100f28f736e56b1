-- Expressions of one shape read the same.
use Rattle.std.proofs.Common.{◌≡◌, ◌++◌, ap, refl, sym, ◌∙◌}
use Rattle.std.specs.Hash as fed
use Rattle.policy_expressions.specs.Tree.{Tree, lit, var, ite, conj, disj, unary, binary, attr, has, like, is_type}
use Rattle.policy_expressions.specs.Shape.{SameShape}
use Rattle.typing_spec.specs.Bare.{bare}
use Rattle.typing_spec.specs.BareLaws.{bare_alike, depth_bare}
use Rattle.typing_spec.specs.Path.{path_fed}

path_bare : {A : Type 0} → (x : Tree A) → path_fed (bare x) ≡ path_fed x
path_bare (lit l a) = refl
path_bare (var v a) = refl
path_bare (ite x y z a) = λ i. path_bare x i ++ (path_bare y i ++ path_bare z i)
path_bare (conj x y a) = λ i. path_bare x i ++ path_bare y i
path_bare (disj x y a) = λ i. path_bare x i ++ path_bare y i
path_bare (unary o x a) = path_bare x
path_bare (binary o x y a) = λ i. path_bare x i ++ path_bare y i
path_bare (attr x n a) = λ i. path_bare x i ++ fed.str n
path_bare (has x n a) = λ i. path_bare x i ++ fed.str n
path_bare (like x p a) = path_bare x
path_bare (is_type x t a) = path_bare x
path_bare x = ap fed.u32 (depth_bare x)

pub same_path : {A B : Type 0} → (x : Tree A) (u : Tree B) → SameShape x u → path_fed x ≡ path_fed u
same_path x u h = sym (path_bare x) ∙ ap path_fed (bare_alike x u h) ∙ path_bare u
