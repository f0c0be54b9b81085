use Rattle.std.proofs.Common.{◌≡◌, Some, List, ℕ, refl, sym, inl, subst, slice_get, ◌∙◌, arith}
use Rattle.std.specs.Ordering.{nat_cmp}
use Rattle.std.specs.BTreeMap.{get_by}
use Rattle.std.specs.Cmp.Lexicographic.{slice_cmp}
use Rattle.std.proofs.lemmas.Option.{slice_get_within}
use Rattle.interner.proofs.FoundLemmas.{look_up_stands, joined_interns}
use Rattle.interner.proofs.table.Interner.intern.Goals as goal

-- The text was in the table.
pub returns-in-Some-clause-ok : goal.returns-in-Some-clause-ok
returns-in-Some-clause-ok c = record {
  joins = inl refl;
  stands = subst (λ (texts : List (List ℕ)). slice_get texts c.in-Some.number ≡ Some c.args.text.now) c.self.view_is
      (look_up_stands c.self.inside.places.slots.items (λ text. get_by (λ key. slice_cmp nat_cmp text key.items) c.self.inside.places.others) c.self.inside.texts c.args.text.now c.in-Some.number c.self.invariant
      (sym c.find.ensures ∙ c.in-Some.is));
}

pub returns-in-Some-clause-number : goal.returns-in-Some-clause-number
returns-in-Some-clause-number c = let stands = (returns-in-Some-clause-ok c).stands in omega (arith, slice_get_within c.args.self.now c.in-Some.number c.args.text.now stands)

-- The text has joined it.
pub returns-in-None-clause-ok : goal.returns-in-None-clause-ok
returns-in-None-clause-ok c = joined_interns c.join.result c.args.self.now c.join.new.self c.args.text.now c.join.ensures.number c.join.ensures.ok
