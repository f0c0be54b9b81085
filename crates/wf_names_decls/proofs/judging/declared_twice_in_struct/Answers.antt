use Rattle.std.proofs.Common.{rules, ◌≡◌, ℕ, List, [], ◌∷◌, drop, length, min, refl, sym, ap, subst, ◌∙◌, length-append}
use Rattle.std.proofs.lemmas.Slice.Zip.{zip_turn, zip_end}
use Rattle.std.specs.List.{list_any}
use Rattle.std.specs.Ordering.{is_eq}
use Rattle.std.specs.BTreeSet.{contains}
use Rattle.wf_text.specs.Precedence.{soonest}
use Rattle.wf_names_rules.specs.Pairs.{Pair, same_pair, pair_cmp}
use Rattle.wf_names_decls.specs.DeclarationPass.{declared_twice_in_struct}
use Rattle.wf_names_decls.proofs.PairSets.{rising-pairs, pass-step, pass-end}
use Rattle.wf_names_decls.proofs.judging.declared_twice_in_struct.Goals as goal

pub returns-then-rise : goal.returns-then-rise
returns-then-rise c = sym (rising-pairs c.args.found.now [] 0 c.args.owners.now c.args.names.now (λ p s. absurd (cc s)) (sym c.rise.ensures ∙ c.if-rise.true))

pub loop-owner-init : goal.loop-owner-init
loop-owner-init c = ([], (λ p. ap (λ (keys : List Pair). list_any (λ key. is_eq (pair_cmp p key)) keys) c.new-seen.ensures.empty), refl)

pub loop-owner-preserved : goal.loop-owner-preserved
loop-owner-preserved c =
    let owners = c.args.owners.now in
    let names = c.args.names.now in
    let i = length c.loop-owner.yielded in
    let turn = zip_turn owners names c.loop-owner.yielded c.into_iter-owner-iterator.result c.loop-owner.owner-iterator c.next.new.self c.next.result (search rules) (search rules) c.loop-owner.yielded_by (c.in-Some.owner, c.in-Some.name) c.in-Some.is c.next.ensures.steps in
    let P : ℕ → Type 0 = λ k.
    (ps : List Pair) × ((p : Pair) → contains pair_cmp c.insert.new.self p ≡ list_any (same_pair p) ps)
    × (soonest c.refuse.new.self (declared_twice_in_struct ps (drop k owners) (drop k names)) ≡ soonest c.args.found.now (declared_twice_in_struct [] owners names)) in
    subst P (sym (length-append c.loop-owner.yielded ((c.in-Some.owner, c.in-Some.name) ∷ [])))
    (pass-step (contains pair_cmp c.loop-owner.seen) (contains pair_cmp c.insert.new.self) c.loop-owner.found c.refuse.new.self c.twice.result c.loop-owner.invariant.0 owners names i c.in-Some.owner.now c.in-Some.name.now c.in_ok-fresh.fresh
    (soonest c.args.found.now (declared_twice_in_struct [] owners names)) turn.0 turn.1 (turn.2 c.in-Some.owner.now) (turn.3 c.in-Some.name.now) c.loop-owner.invariant.1 c.in_ok-fresh.ensures.updates.0 c.in_ok-fresh.ensures.added
    c.twice.ensures c.refuse.ensures c.loop-owner.invariant.2)

pub returns : goal.returns
returns c =
    let n : length c.loop-owner.yielded ≡ min (length c.args.owners.now) (length c.args.names.now) = zip_end c.args.owners.now c.args.names.now c.loop-owner.yielded c.into_iter-owner-iterator.result c.loop-owner.owner-iterator c.next.new.self c.next.result (search rules) (search rules) c.loop-owner.yielded_by c.in-None.is c.next.ensures.steps in
    sym (ap (soonest c.loop-owner.found) (pass-end c.loop-owner.invariant.0 c.args.owners.now c.args.names.now (length c.loop-owner.yielded) n)) ∙ c.loop-owner.invariant.2
