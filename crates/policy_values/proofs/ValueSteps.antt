-- Steps of loops over values.
use Rattle.std.proofs.Common.{◌≡◌, ℕ, ◌<◌, ◌≤◌, List, [], ◌∷◌, length, drop, arith, ap, ◌∙◌, refl}
use Rattle.std.specs.declared.cmp.Ordering.TheVariants.{Less, Equal, Greater}
use Rattle.std.proofs.lemmas.List.{at_drop_more, at_drop_all}
use Rattle.policy_values.specs.Value.{Val, Vals, no_vals, val, vals_of, fields_of}
use Rattle.std.specs.declared.cmp.Ordering.{Ordering}
use Rattle.std.specs.Ordering.{match_ordering, ordering_reverse}
use Rattle.std.specs.List.{AllByRecursion}
use Rattle.std.specs.List.Sorted.{IsStrictlySortedBy}
use Rattle.std.specs.BTreeSet.{insert_key}
use Rattle.std.specs.Map.{keys_of}
use Rattle.policy_values.specs.Ascending.{ascending_of}
use Rattle.policy_values.specs.ValueLaws.{val_cmp_total}
use Rattle.policy_values.specs.ValueOrder.{vals_cmp, val_cmp, insert_val, set_of, IsBelow, Ascends, IsBelowField, AscendsFields}
use Rattle.policy_values.specs.Uid.{text_cmp}

-- a list that is over comes before one that is not
pub vals_cmp-over : (xs ys : List Val) (i : ℕ) → length xs ≤ i → i < length ys → vals_cmp (vals_of (drop i xs)) (vals_of (drop i ys)) ≡ Less
vals_cmp-over xs [] i h k = absurd (omega arith)
vals_cmp-over xs (y ∷ ys) i h k =
    at_drop_all (λ zs. vals_cmp (vals_of zs) (vals_of (drop i (y ∷ ys)))) xs i h
    ∙ at_drop_more (λ zs. vals_cmp (vals_of []) (vals_of zs)) (y ∷ ys) i y k

chosen : {A B : Type 0} (f : A → B) (o : Ordering) (x y z : A) → f (match_ordering o x y z) ≡ match_ordering o (f x) (f y) (f z)
chosen f Less x y z = refl
chosen f Equal x y z = refl
chosen f Greater x y z = refl

vals_of-insert_key : (v : Val) (ws : List Val) → vals_of (insert_key val_cmp ws v) ≡ insert_val v (vals_of ws)
vals_of-insert_key v [] = refl
vals_of-insert_key v (w ∷ ws) =
    chosen vals_of (val_cmp v w) (v ∷ w ∷ ws) (w ∷ ws) (w ∷ insert_key val_cmp ws v)
    ∙ ap (λ r. match_ordering (val_cmp v w) (val v (val w (vals_of ws))) (val w (vals_of ws)) (val w r)) (vals_of-insert_key v ws)

-- the items of a list in order are its set
pub vals_of-ascending : (vs : List Val) → vals_of (ascending_of val_cmp vs) ≡ set_of vs
vals_of-ascending [] = refl
vals_of-ascending (v ∷ vs) = vals_of-insert_key v (ascending_of val_cmp vs) ∙ ap (insert_val v) (vals_of-ascending vs)

IsBelow-put_first : (w v x : Val) (ws : Vals) → val_cmp w v ≡ Less → IsBelow w (val x ws) → IsBelow w (insert_val v (val x ws))
IsBelow-put_first w v x ws h k = by_cmp (val_cmp v x)
  where
    by_cmp : (o : Ordering) → IsBelow w (match_ordering o (val v (val x ws)) (val x ws) (val x (insert_val v ws)))
    by_cmp Less = h
    by_cmp Equal = k
    by_cmp Greater = k

IsBelow-insert_val : (w v : Val) (ws : Vals) → val_cmp w v ≡ Less → IsBelow w ws → IsBelow w (insert_val v ws)
IsBelow-insert_val w v no_vals h k = h
IsBelow-insert_val w v (val x ws) h k = IsBelow-put_first w v x ws h k

Ascends-put_first : (v w : Val) (ws : Vals) (o : Ordering) → val_cmp v w ≡ o → Ascends (val w ws) → Ascends (insert_val v ws) → Ascends (match_ordering o (val v (val w ws)) (val w ws) (val w (insert_val v ws)))
Ascends-put_first v w ws Less e h k = (e, h)
Ascends-put_first v w ws Equal e h k = h
Ascends-put_first v w ws Greater e h k =
    (IsBelow-insert_val w v ws (val_cmp_total.antisymm w v ∙ ap ordering_reverse e) h.0, k)

Ascends-insert_val : (v : Val) (ws : Vals) → Ascends ws → Ascends (insert_val v ws)
Ascends-insert_val v no_vals h = (tt, tt)
Ascends-insert_val v (val w ws) h = Ascends-put_first v w ws (val_cmp v w) refl h (Ascends-insert_val v ws h.1)

-- a set ascends
pub Ascends-set_of : (vs : List Val) → Ascends (set_of vs)
Ascends-set_of [] = tt
Ascends-set_of (v ∷ vs) = Ascends-insert_val v (set_of vs) (Ascends-set_of vs)

IsBelowField-first : (k : List ℕ) (es : List (List ℕ × Val)) → AllByRecursion (λ y. text_cmp k y ≡ Less) (keys_of es) → IsBelowField k (fields_of es)
IsBelowField-first k [] h = tt
IsBelowField-first k (e ∷ es) h = h.0

-- a map's fields ascend
pub AscendsFields-entries : (es : List (List ℕ × Val)) → IsStrictlySortedBy text_cmp (keys_of es) → AscendsFields (fields_of es)
unfolding IsStrictlySortedBy
AscendsFields-entries [] h = tt
AscendsFields-entries (e ∷ es) h = (IsBelowField-first e.0 es h.0, AscendsFields-entries es h.1)
