use Rattle.std.proofs.Common.{◌≡◌, ◌++◌, ◌∷◌, [], arith}
use Rattle.c_step_exprs.specs.Resolving.{arms_code}
use Rattle.c_step_load_exprs.proofs.CodeLemmas.{on_ok, arms_closed}
use Rattle.c_step_load_exprs.proofs.parts.close_arms.Goals as goal

pub returns : goal.returns
returns c = λ names first second front met unmet t e f m.
    let one = c.converted-it.ensures names first second t in
    rw one (on_ok c.put.result (c.put.new.code.items ≡ c.set-3.new.code.items ++ c.converted-it.result ∷ []) (c.put.new.code.items ≡ front ++ arms_code (met ++ c.converted-it.result ∷ []) (unmet ++ c.converted-it.result ∷ []))
    (λ h. arms_closed c.args.code.now.items c.set.new.code.items c.set-2.new.code.items c.set-3.new.code.items c.put.new.code.items front met unmet c.converted-it.result c.args.from c.args.middle c.len-end.result e f m (omega (arith, c.len-end.ensures, c.args.code.now.ok)) (λ a b o p q. c.set.ensures.set a b o p q) (λ a b o p q. c.set-2.ensures.set a b o p q) (λ a b o p q. c.set-3.ensures.set a b o p q) h) c.put.ensures)
