use Rattle.std.proofs.Common.{ℕ, subst, inr}
use Rattle.interner.specs.Interning.{AreTaken}
use Rattle.interner.proofs.TableLemmas.{joins_others}
use Rattle.interner.proofs.places.Places.seat.Goals as goal

pub returns-in_ok-insert-in-None-clause-ok : goal.returns-in_ok-insert-in-None-clause-ok
returns-in_ok-insert-in-None-clause-ok c =
    inr (joins_others (λ key. key.items) c.args.text.now c.in_ok-key-in-None.key.items c.args.self.now.others c.insert.new.self c.args.number c.args.self.now.slots.items c.in_ok-key-in-None.ensures.items
    (subst (λ (made : ℕ). AreTaken c.args.self.now.slots.items made) c.requires.digest c.in-None.ensures.taken) c.in_ok-insert-in-None.ensures.updates)
