-- The attributes that are left.
use Rattle.std.proofs.Common.{◌≡◌, ℕ, ◌≤◌, arith, List, ◌∷◌, ap}
use Rattle.schema_types.specs.Ty.{size_of_attrs}
use Rattle.schema_types.specs.TyView.{attrs_of}
use Rattle.schema_types.specs.declared.ty.AttributeType.{AttributeType}

module _ (k : List ℕ) (a : AttributeType) where
  pub size_left : (it rest : List (List ℕ × AttributeType)) → it ≡ (k, a) ∷ rest → (n : ℕ) → size_of_attrs (attrs_of it) ≤ n → size_of_attrs (attrs_of rest) ≤ n
  size_left it rest is n h = omega (arith, ap (λ es. size_of_attrs (attrs_of es)) is)
