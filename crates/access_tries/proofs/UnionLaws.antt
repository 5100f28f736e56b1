-- Unions in any order are the same.
use Rattle.std.proofs.Common.{◌≡◌, Bool, true, false, ◌||◌, refl, sym, ap, ◌∙◌}
use Rattle.access_tries.specs.Laws.{UnionsAgree}
use Rattle.access_tries.specs.Table.{leads, is_marked}
use Rattle.plain_lemmas.proofs.Booleans.{or_assoc, or_comm}

or_twice : (a : Bool) → (a || a) ≡ a
or_twice true = refl
or_twice false = refl

pub unions_agree : UnionsAgree
unions_agree = record {
  commute = λ a b t u h k. record {
    paths = λ es. h.paths es ∙ or_comm (leads a es) (leads b es) ∙ sym (k.paths es);
    marks = λ es. h.marks es ∙ or_comm (is_marked a es) (is_marked b es) ∙ sym (k.marks es);
  };
  associate = λ a b c ab bc t u h k l m. record {
    paths = λ es. k.paths es ∙ ap (λ x. x || leads c es) (h.paths es) ∙ or_assoc (leads a es) (leads b es) (leads c es) ∙ sym (m.paths es ∙ ap (λ x. leads a es || x) (l.paths es));
    marks = λ es. k.marks es ∙ ap (λ x. x || is_marked c es) (h.marks es) ∙ or_assoc (is_marked a es) (is_marked b es) (is_marked c es) ∙ sym (m.marks es ∙ ap (λ x. is_marked a es || x) (l.marks es));
  };
  repeat = λ a t h. record {
    paths = λ es. h.paths es ∙ or_twice (leads a es);
    marks = λ es. h.marks es ∙ or_twice (is_marked a es);
  };
}
