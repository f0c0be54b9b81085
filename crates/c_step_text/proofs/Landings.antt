-- A label's number stands for the place where the label is found.
use Rattle.std.proofs.Common.{◌≡◌, ℕ, ◌+◌, Bool, true, false, Option, Some, None, refl, arith}
use Rattle.std.specs.Prelude.{if◌then◌else◌, nat_lt}
use Rattle.std.proofs.lemmas.Bool.Decides.{nat_tests}
use Rattle.c_text.specs.CTree.{Code, finish, nested, empty, assign, call, jump, branch, repeat, select, leave, case_label, default_label, name_label}
use Rattle.c_meaning.specs.CStep.{Continuation, behind, again, Place, at, code_weight, continuation_weight, Label, enters_switch, is_case, is_default, is_named, first_of, here, find}
use Rattle.c_step_text.specs.Flat.{FlatText}
use Rattle.c_step_text.specs.Layout.{Names, go, past, past_both, second, first_number, number_here, seek, Laid, Follows}
use Rattle.c_step_text.specs.Labels.{Lands, Landing}

module _ (t : FlatText) (names : Names) (end : ℕ) where
  pub lands_first : (a b : Option ℕ) (p q : Option Place) → Landing t names end a p → Landing t names end b q → Landing t names end (first_number a b) (first_of p q)
  lands_first None b None q h k = k
  lands_first None b (Some p) q h k = absurd h
  lands_first (Some n) b None q h k = absurd h
  lands_first (Some n) b (Some p) q h k = h

  lands_here : (b : Bool) (n : ℕ) (o : Option ℕ) (p : Place) (q : Option Place) → Lands t names end n p → Landing t names end o q → Landing t names end (number_here b n o) (here b p q)
  lands_here true n o p q h k = h
  lands_here false n o p q h k = k

  lands_if : (b : Bool) (o : Option ℕ) (p : Option Place) → Landing t names end o p → Landing t names end (if b then o else None) (if b then p else None)
  lands_if true o p h = h
  lands_if false o p h = tt

  -- what stands after a block
  pub follows_behind : (i next : ℕ) (passed rest : Code) (k : Continuation) → i + code_weight rest + continuation_weight k ≡ end → Laid t names i next rest → Follows t names end next k → Follows t names end (go i next rest) (behind passed rest k)
  follows_behind i next passed rest k tied laid follows = (i, next, refl, tied, laid, follows)

  pub found : (label : Label) (i next : ℕ) (c : Code) (k : Continuation) → i + code_weight c + continuation_weight k ≡ end → Laid t names i next c → Follows t names end next k → Landing t names end (seek label i c) (find label c k)
  found label i next finish k e laid f = tt
  found label i next (nested inner rest) k e laid f =
      lands_first (seek label (i + 1) inner) _ (find label inner (behind finish rest k)) _
      (found label (i + 1) (go (past i inner) next rest) inner (behind finish rest k) (omega (arith, e)) laid.1 (follows_behind (past i inner) next finish rest k (omega (arith, e)) laid.2 f))
      (found label (past i inner) next rest k (omega (arith, e)) laid.2 f)
  found label i next (empty rest) k e laid f = found label (i + 1) next rest k (omega (arith, e)) laid.1 f
  found label i next (assign target v rest) k e laid f = found label (i + 1) next rest k (omega (arith, e)) laid.1 f
  found label i next (call target function given rest) k e laid f = found label (i + 1) next rest k (omega (arith, e)) laid.1 f
  found label i next (jump name rest) k e laid f = found label (i + 1) next rest k (omega (arith, e)) laid.1 f
  found label i next (branch test body otherwise other rest) k e laid f =
      lands_first (seek label (i + 1) body) _ (find label body (behind other rest k)) _
      (found label (i + 1) (go (past_both i body other) next rest) body (behind other rest k) (omega (arith, e)) laid.1 (follows_behind (past_both i body other) next other rest k (omega (arith, e)) laid.3 f))
      (lands_first (seek label (second i body) other) _ (find label other (behind finish rest k)) _
      (found label (second i body) (go (past_both i body other) next rest) other (behind finish rest k) (omega (arith, e)) laid.2 (follows_behind (past_both i body other) next finish rest k (omega (arith, e)) laid.3 f))
      (found label (past_both i body other) next rest k (omega (arith, e)) laid.3 f))
  found label i next (repeat test body rest) k e laid f =
      lands_first (seek label (i + 1) body) _ (find label body (again test body (behind finish rest k))) _
      (found label (i + 1) (second i body) body (again test body (behind finish rest k)) (omega (arith, e)) laid.2
      (i + 1, go (past i body) next rest, laid.1, omega (arith, e), omega arith, laid.2, follows_behind (past i body) next finish rest k (omega (arith, e)) laid.3 f))
      (found label (past i body) next rest k (omega (arith, e)) laid.3 f)
  found label i next (select on body rest) k e laid f =
      lands_first (if enters_switch label then seek label (i + 1) body else None) _ (if enters_switch label then find label body (behind finish rest k) else None) _
      (lands_if (enters_switch label) _ _ (found label (i + 1) (go (past i body) next rest) body (behind finish rest k) (omega (arith, e)) laid.1 (follows_behind (past i body) next finish rest k (omega (arith, e)) laid.2 f)))
      (found label (past i body) next rest k (omega (arith, e)) laid.2 f)
  found label i next (leave v rest) k e laid f = found label (i + 1) next rest k (omega (arith, e)) laid.1 f
  found label i next (case_label n rest) k e laid f =
      lands_here (is_case label n) i _ (at (case_label n rest) k) _ (record { stands = record { i = i; next = next; is = refl; tied = e; laid = laid; follows = f }; tied = omega (arith, e) })
      (found label (i + 1) next rest k (omega (arith, e)) laid.1 f)
  found label i next (default_label rest) k e laid f =
      lands_here (is_default label) i _ (at (default_label rest) k) _ (record { stands = record { i = i; next = next; is = refl; tied = e; laid = laid; follows = f }; tied = omega (arith, e) })
      (found label (i + 1) next rest k (omega (arith, e)) laid.1 f)
  found label i next (name_label name rest) k e laid f =
      lands_here (is_named label name) i _ (at (name_label name rest) k) _ (record { stands = record { i = i; next = next; is = refl; tied = e; laid = laid; follows = f }; tied = omega (arith, e) })
      (found label (i + 1) next rest k (omega (arith, e)) laid.1 f)

-- The order of numbers is that of the text.
pub same_order : (m n end w v : ℕ) → m + w ≡ end → n + v ≡ end → nat_lt w v ≡ nat_lt n m
same_order m n end w v e f = grind (arith, nat_tests, e, f)
