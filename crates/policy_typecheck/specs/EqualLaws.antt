-- Typed expressions differ in places at most exactly where they are one without places.
use Rattle.std.proofs.Common.{◌≡◌, ap, refl, sym, ◌∙◌}
use Rattle.std.specs.Bool.{Decides}
use Rattle.std.specs.Cmp.{IsEquivalence, on_equiv, bool_eq_equiv}
use Rattle.std.proofs.lemmas.Cmp.{and_equiv}
use Rattle.policy_expressions.specs.Tree.{Tree, lit, var, slot, ite, conj, disj, unary, binary, attr, has, like, is_type, call, set, rec, Trees, no_trees, tree, Named, no_named, named, Mark, mark_of}
use Rattle.std.specs.Prelude.{None}
use Rattle.policy_expressions.specs.Shape.{SameShape, SameShapes, SameNamed}
use Rattle.typing_spec.specs.BareLaws.{stored_decides, same_stored_equiv}
use Rattle.typing_spec.specs.CapabilityLaws.{known_equiv}
use Rattle.policy_typecheck.specs.TypecheckAnswer.{Typed, expr_of, is_success, known_of}
use Rattle.policy_typecheck.specs.Equal.{unplaced, unplaced_trees, unplaced_named, SameNote, SameNotes, SameBelow, SameOfTrees, SameOfNamed, SameTyped, coded_typed, same_typed, same_answer}

module _ {T : Type 0} where
  mutual
    placed_alike : (x u : Tree (Mark T)) → SameShape x u → SameNotes x u → unplaced x ≡ unplaced u
    placed_alike (lit l a) (lit m b) s h = λ i. lit (s i) (record { note = h.0 i; loc = None })
    placed_alike (var v a) (var w b) s h = λ i. var (s i) (record { note = h.0 i; loc = None })
    placed_alike (slot k a) (slot j b) s h = λ i. slot (s i) (record { note = h.0 i; loc = None })
    placed_alike (ite x y z a) (ite u v w b) s h = λ i. ite (placed_alike x u s.0 h.1.0 i)
        (placed_alike y v s.1 h.1.1 i) (placed_alike z w s.2 h.1.2 i) (record { note = h.0 i; loc = None })
    placed_alike (conj x y a) (conj u v b) s h = λ i. conj (placed_alike x u s.0 h.1.0 i)
        (placed_alike y v s.1 h.1.1 i) (record { note = h.0 i; loc = None })
    placed_alike (disj x y a) (disj u v b) s h = λ i. disj (placed_alike x u s.0 h.1.0 i)
        (placed_alike y v s.1 h.1.1 i) (record { note = h.0 i; loc = None })
    placed_alike (unary o x a) (unary p u b) s h =
        λ i. unary (s.0 i) (placed_alike x u s.1 h.1 i) (record { note = h.0 i; loc = None })
    placed_alike (binary o x y a) (binary p u v b) s h = λ i. binary (s.0 i) (placed_alike x u s.1 h.1.0 i)
        (placed_alike y v s.2 h.1.1 i) (record { note = h.0 i; loc = None })
    placed_alike (attr x m a) (attr u n b) s h =
        λ i. attr (placed_alike x u s.0 h.1 i) (s.1 i) (record { note = h.0 i; loc = None })
    placed_alike (has x m a) (has u n b) s h =
        λ i. has (placed_alike x u s.0 h.1 i) (s.1 i) (record { note = h.0 i; loc = None })
    placed_alike (like x p a) (like u q b) s h =
        λ i. like (placed_alike x u s.0 h.1 i) (s.1 i) (record { note = h.0 i; loc = None })
    placed_alike (is_type x t a) (is_type u v b) s h =
        λ i. is_type (placed_alike x u s.0 h.1 i) (s.1 i) (record { note = h.0 i; loc = None })
    placed_alike (call f xs a) (call g us b) s h =
        λ i. call (s.0 i) (trees_alike xs us s.1 h.1 i) (record { note = h.0 i; loc = None })
    placed_alike (set xs a) (set us b) s h =
        λ i. set (trees_alike xs us s h.1 i) (record { note = h.0 i; loc = None })
    placed_alike (rec xs a) (rec us b) s h =
        λ i. rec (named_alike xs us s h.1 i) (record { note = h.0 i; loc = None })
    placed_alike x u s h = absurd h.1

    trees_alike : (xs us : Trees (Mark T)) → SameShapes xs us →
        SameOfTrees xs us → unplaced_trees xs ≡ unplaced_trees us
    trees_alike no_trees no_trees s h = refl
    trees_alike (tree x xs) (tree u us) s h =
        λ i. tree (placed_alike x u s.0 h.0 i) (trees_alike xs us s.1 h.1 i)
    trees_alike xs us s h = absurd h

    named_alike : (xs us : Named (Mark T)) → SameNamed xs us →
        SameOfNamed xs us → unplaced_named xs ≡ unplaced_named us
    named_alike no_named no_named s h = refl
    named_alike (named m x xs) (named n u us) s h =
        λ i. named (s.0 i) (placed_alike x u s.1 h.0 i) (named_alike xs us s.2 h.1 i)
    named_alike xs us s h = absurd h

  -- where they are one without places, they have one shape
  mutual
    shapes : (x u : Tree (Mark T)) → unplaced x ≡ unplaced u → SameShape x u
    shapes (lit l a) (lit m b) p = cc
    shapes (var v a) (var w b) p = cc
    shapes (slot i a) (slot j b) p = cc
    shapes (ite x y z a) (ite u v w b) p = (shapes x u (cc), shapes y v (cc), shapes z w (cc))
    shapes (conj x y a) (conj u v b) p = (shapes x u (cc), shapes y v (cc))
    shapes (disj x y a) (disj u v b) p = (shapes x u (cc), shapes y v (cc))
    shapes (unary o x a) (unary q u b) p = (cc, shapes x u (cc))
    shapes (binary o x y a) (binary q u v b) p = (cc, shapes x u (cc), shapes y v (cc))
    shapes (attr x m a) (attr u n b) p = (shapes x u (cc), cc)
    shapes (has x m a) (has u n b) p = (shapes x u (cc), cc)
    shapes (like x q a) (like u r b) p = (shapes x u (cc), cc)
    shapes (is_type x s a) (is_type u t b) p = (shapes x u (cc), cc)
    shapes (call f xs a) (call g us b) p = (cc, shapes_of_trees xs us (cc))
    shapes (set xs a) (set us b) p = shapes_of_trees xs us (cc)
    shapes (rec xs a) (rec us b) p = shapes_of_named xs us (cc)
    shapes x u p = cc

    shapes_of_trees : (xs us : Trees (Mark T)) → unplaced_trees xs ≡ unplaced_trees us → SameShapes xs us
    shapes_of_trees no_trees no_trees p = tt
    shapes_of_trees (tree x xs) (tree u us) p = (shapes x u (cc), shapes_of_trees xs us (cc))
    shapes_of_trees xs us p = cc

    shapes_of_named : (xs us : Named (Mark T)) → unplaced_named xs ≡ unplaced_named us → SameNamed xs us
    shapes_of_named no_named no_named p = tt
    shapes_of_named (named m x xs) (named n u us) p = (cc, shapes x u (cc), shapes_of_named xs us (cc))
    shapes_of_named xs us p = cc

  note_at : (x : Tree (Mark T)) → (mark_of (unplaced x)).note ≡ (mark_of x).note
  note_at (lit l a) = refl
  note_at (var v a) = refl
  note_at (slot i a) = refl
  note_at (ite x y z a) = refl
  note_at (conj x y a) = refl
  note_at (disj x y a) = refl
  note_at (unary o x a) = refl
  note_at (binary o x y a) = refl
  note_at (attr x n a) = refl
  note_at (has x n a) = refl
  note_at (like x p a) = refl
  note_at (is_type x t a) = refl
  note_at (call f xs a) = refl
  note_at (set xs a) = refl
  note_at (rec xs a) = refl

  -- and the same notes
  top : (x u : Tree (Mark T)) → unplaced x ≡ unplaced u → SameNote x u
  top x u p = sym (note_at x) ∙ ap (λ t. (mark_of {A = Mark T} t).note) p ∙ note_at u

  mutual
    below : (x u : Tree (Mark T)) → unplaced x ≡ unplaced u → SameBelow x u
    below (lit l a) (lit m b) p = tt
    below (var v a) (var w b) p = tt
    below (slot i a) (slot j b) p = tt
    below (ite x y z a) (ite u v w b) p =
        ((top x u (cc), below x u (cc)), (top y v (cc), below y v (cc)), (top z w (cc), below z w (cc)))
    below (conj x y a) (conj u v b) p = ((top x u (cc), below x u (cc)), (top y v (cc), below y v (cc)))
    below (disj x y a) (disj u v b) p = ((top x u (cc), below x u (cc)), (top y v (cc), below y v (cc)))
    below (unary o x a) (unary q u b) p = (top x u (cc), below x u (cc))
    below (binary o x y a) (binary q u v b) p =
        ((top x u (cc), below x u (cc)), (top y v (cc), below y v (cc)))
    below (attr x m a) (attr u n b) p = (top x u (cc), below x u (cc))
    below (has x m a) (has u n b) p = (top x u (cc), below x u (cc))
    below (like x q a) (like u r b) p = (top x u (cc), below x u (cc))
    below (is_type x s a) (is_type u t b) p = (top x u (cc), below x u (cc))
    below (call f xs a) (call g us b) p = notes_of_trees xs us (cc)
    below (set xs a) (set us b) p = notes_of_trees xs us (cc)
    below (rec xs a) (rec us b) p = notes_of_named xs us (cc)
    below x u p = cc

    notes_of_trees : (xs us : Trees (Mark T)) → unplaced_trees xs ≡ unplaced_trees us → SameOfTrees xs us
    notes_of_trees no_trees no_trees p = tt
    notes_of_trees (tree x xs) (tree u us) p = ((top x u (cc), below x u (cc)), notes_of_trees xs us (cc))
    notes_of_trees xs us p = cc

    notes_of_named : (xs us : Named (Mark T)) → unplaced_named xs ≡ unplaced_named us → SameOfNamed xs us
    notes_of_named no_named no_named p = tt
    notes_of_named (named m x xs) (named n u us) p =
        ((top x u (cc), below x u (cc)), notes_of_named xs us (cc))
    notes_of_named xs us p = cc

-- the test on typed expressions decides whether they differ in places at most
pub same_typed_decides : (x u : Typed) → Decides (same_typed x u) (SameTyped x u)
same_typed_decides x u =
    let d = stored_decides (coded_typed.code (unplaced x)) (coded_typed.code (unplaced u)) in (
      λ h. let p = coded_typed.inj (unplaced x) (unplaced u) (d.0 h) in
          (shapes x u p, (top x u p, below x u p)),
      λ h. d.1 (ap coded_typed.code (placed_alike x u h.0 h.1)),
    )

same_typed_equiv : IsEquivalence same_typed
same_typed_equiv = on_equiv (λ x. coded_typed.code (unplaced x)) same_stored_equiv

pub same_answer_equiv : IsEquivalence same_answer
same_answer_equiv =
    and_equiv (on_equiv is_success bool_eq_equiv)
    (and_equiv (on_equiv expr_of same_typed_equiv) (on_equiv known_of known_equiv))
