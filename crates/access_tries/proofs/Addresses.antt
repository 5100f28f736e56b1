-- Lists of addresses, and the tries of them.
use Rattle.std.proofs.Common.{◌≡◌, ◌<◌, Bool, true, false, ◌&&◌, ◌||◌, List, [], ◌∷◌, length, refl, sym, ap, ◌∙◌, arith}
use Rattle.std.specs.List.{list_any}
use Rattle.std.specs.List.Sorted.{IsPermutation}
use Rattle.std.proofs.lemmas.List.Sorted.{list_any-IsPermutation}
use Rattle.access_tries.specs.Edges.{Address}
use Rattle.access_tries.specs.Table.{Table, leads, is_marked}
use Rattle.access_tries.specs.Paths.{is_prefix_of, is_same, IsUnion, IsLeastOf}
use Rattle.access_tries.specs.Walks.{IsOf}
use Rattle.plain_lemmas.proofs.Booleans.{or_false}

-- the trie of addresses in one order is that of the same addresses in another
pub reordered : (xs ys : List Address) (mark : Bool) (t : Table) → IsPermutation xs ys → IsOf ys mark t → IsOf xs mark t
reordered xs ys mark t p is = record {
  paths = λ es. is.paths es ∙ sym (list_any-IsPermutation (is_prefix_of es) xs ys p);
  marks = λ es. is.marks es ∙ sym (ap (λ b. mark && b) (list_any-IsPermutation (is_same es) xs ys p));
}

pub least_of : (reads demands : List Address) (read demanded t : Table) → IsOf reads false read → IsOf demands true demanded → IsUnion read demanded t → IsLeastOf reads demands t
least_of reads demands read demanded t r d u = record {
  paths = λ es. u.paths es ∙ (λ i. r.paths es i || d.paths es i);
  marks = λ es. u.marks es ∙ (λ i. r.marks es i || d.marks es i);
}

-- where nothing is asked for, what is read is all
pub least_of_reads : (reads : List Address) (t : Table) → IsOf reads false t → IsLeastOf reads [] t
least_of_reads reads t is = record {
  paths = λ es. is.paths es ∙ sym (or_false (list_any (is_prefix_of es) reads));
  marks = λ es. is.marks es;
}

pub none_in : {X : Type 0} (xs : List X) → length xs < 1 → xs ≡ []
none_in [] h = refl
none_in (x ∷ xs) h = absurd (omega (arith, h))

empty_leads : (es : Address) → leads [] es ≡ false
empty_leads [] = refl
empty_leads (e ∷ es) = refl

empty_marks : (mark : Bool) (es : Address) → is_marked [] es ≡ (mark && false)
empty_marks true [] = refl
empty_marks true (e ∷ es) = refl
empty_marks false [] = refl
empty_marks false (e ∷ es) = refl

-- without nodes nothing leads anywhere
pub none_of : (mark : Bool) → IsOf [] mark []
none_of mark = record { paths = empty_leads; marks = empty_marks mark }
