-- Where outcomes are the same the response is, and a store is a part of itself.
use Rattle.std.proofs.Common.{◌≡◌, true, List, [], ◌∷◌, filter, refl, sym, ap}
use Rattle.policy_values.specs.declared.entity_uid.EntityUID.{EntityUID}
use Rattle.policy_values.specs.Value.{Val, rec, Fields, no_fields, field}
use Rattle.entity_store.specs.declared.request.Request.{Request}
use Rattle.entity_store.specs.Store.{Store}
use Rattle.policy_set.specs.Data.{PolicyData}
use Rattle.policy_set.specs.Response.{outcome, outcomes, true_permits, true_forbids, failures, decided, response}
use Rattle.reads_spec.specs.Restrict.{Keep, cut, cut_fields, part}

-- the response is made of the outcomes
permits_same : (q : Request) (s w : Store) (ps : List PolicyData) → outcomes ps q s ≡ outcomes ps q w → true_permits q s ps ≡ true_permits q w ps
permits_same q s w [] h = refl
permits_same q s w (p ∷ ps) h =
    let head : outcome p q s ≡ outcome p q w = cc in
    let rest : outcomes ps q s ≡ outcomes ps q w = cc in
    rw (head, permits_same q s w ps rest) refl

forbids_same : (q : Request) (s w : Store) (ps : List PolicyData) → outcomes ps q s ≡ outcomes ps q w → true_forbids q s ps ≡ true_forbids q w ps
forbids_same q s w [] h = refl
forbids_same q s w (p ∷ ps) h =
    let head : outcome p q s ≡ outcome p q w = cc in
    let rest : outcomes ps q s ≡ outcomes ps q w = cc in
    rw (head, forbids_same q s w ps rest) refl

failures_same : (q : Request) (s w : Store) (ps : List PolicyData) → outcomes ps q s ≡ outcomes ps q w → failures q s ps ≡ failures q w ps
failures_same q s w [] h = refl
failures_same q s w (p ∷ ps) h =
    let head : outcome p q s ≡ outcome p q w = cc in
    let rest : outcomes ps q s ≡ outcomes ps q w = cc in
    rw (head, failures_same q s w ps rest) refl

pub response_same : (ps : List PolicyData) (q : Request) (s w : Store) → outcomes ps q s ≡ outcomes ps q w → response ps q s ≡ response ps q w
response_same ps q s w h = λ i. decided (permits_same q s w ps h i) (forbids_same q s w ps h i) (failures_same q s w ps h i)

-- a store is a part of itself
mutual
  cut_all : (v : Val) → cut v (λ c. true) ≡ v
  cut_all (rec fs) = ap rec (cut_fields_all fs)
  cut_all v = refl

  cut_fields_all : (fs : Fields) → cut_fields fs (λ c. true) ≡ fs
  cut_fields_all no_fields = refl
  cut_fields_all (field n v fs) = λ i. field n (cut_all v i) (cut_fields_all fs i)

filter_all : (ys : List EntityUID) → filter (λ y. true) ys ≡ ys
filter_all [] = refl
filter_all (y ∷ ys) = ap (λ zs. y ∷ zs) (filter_all ys)

all_kept : Keep
all_kept = record { chains = λ x c. true; ancestors = λ x y. true; tags = λ x c. true }

part_all : (s : Store) → s ≡ part all_kept s
unfolding all_kept
part_all [] = refl
part_all (e ∷ es) = λ i. record { uid = e.uid; attrs = sym (cut_fields_all e.attrs) i; ancestors = sym (filter_all e.ancestors) i; tags = sym (cut_fields_all e.tags) i } ∷ part_all es i
