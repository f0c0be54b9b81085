-- A text is read token by token.
use Rattle.std.proofs.Common.{◌≡◌, ◌∙◌, ap, sym, subst, ℕ, ◌<◌, ◌≤◌, ◌+◌, ◌-◌, Bool, true, false, ◌&&◌, nat_eq, None, Some, List, [], ◌∷◌, ◌++◌, length, take, drop, take-append-drop, length-append, length-drop, refl, arith, append-nil}
use Rattle.std.specs.List.{list_all}
use Rattle.std.proofs.lemmas.Bool.{eqb-true}
use Rattle.c_text.specs.CNodes.{Nodes, unit_tree}
use Rattle.c_text.specs.CSpelling.{CToken, token_bytes, is_gap_byte, IsGap, includes}
use Rattle.c_text.specs.CTree.{ItemTree}
use Rattle.c_text.specs.declared.tokens.CMark.TheVariants as mark
use Rattle.c_read_grammar.specs.Feeding.{feed, ends}
use Rattle.c_read_grammar.specs.FirstToken.{Stands, begins}
use Rattle.c_read_grammar.specs.Outcomes.{StandsAt, whole, not_c, HasOutcome}
use Rattle.c_read_grammar.specs.Progress.{ReadSoFar}
use Rattle.c_read_grammar.specs.Texts.{IsToken, is_opening, open_after}
use Rattle.c_read_grammar.specs.Values.{a_unit}
use Rattle.c_read_grammar.proofs.FirstBytes.{BeginsAs, begins-token, token_sort}
use Rattle.c_read_grammar.proofs.Progress.{goes-on-here, ends-whole, ends-early, stops-at, stops-bare, stops-deep}
use Rattle.c_read_tokens.specs.declared.kinds.Kind.{Kind}
use Rattle.c_read_tokens.specs.declared.kinds.Kind.TheVariants as kinds
use Rattle.c_read.specs.declared.machine.Machine.{Machine}
use Rattle.c_read_nodes.specs.declared.values.SemanticValue.{SemanticValue}
use Rattle.c_read_nodes.specs.declared.values.SemanticValue.TheVariants as vals
use Rattle.c_read.specs.declared.reading.Ending.{Ending}
use Rattle.c_read.specs.declared.reading.Ending.TheVariants as ending
use Rattle.c_read.specs.declared.reading.Step.TheVariants as step
use Rattle.c_read_tokens.specs.Kinds.{token_of, bare}
use Rattle.c_read_tokens.specs.Lexing.{NoToken}
use Rattle.c_read.specs.Machines.{state_of, AnswersToken, AnswersEnd}
use Rattle.c_read_nodes.specs.Makers.{made}
use Rattle.c_read.specs.Reading.{EndsThere, StepsThere, StepsOn}
use Rattle.c_read_nodes.specs.Seen.{seen_values}

unit_seen : (nodes : Nodes) (vs : List SemanticValue) (u : List ItemTree) → seen_values nodes vs ≡ a_unit u ∷ [] → u ≡ unit_tree nodes
unit_seen nodes [] u h = absurd (cc h)
unit_seen nodes (vals.Unit ∷ vs) u h = cc h
unit_seen nodes (v ∷ vs) u h = absurd (cc h)

at_end : (bytes rest : List ℕ) (place : ℕ) → StandsAt bytes rest [] place → IsGap rest
at_end bytes rest place s = subst IsGap (sym (s.cut ∙ append-nil s.gap)) s.blank

pub end_whole : (at : ℕ) (old new : Machine) (b : Bool) → AnswersEnd old new b → b ≡ true → EndsThere at old new ending.Whole
end_whole at old new b answers is body rest n so_far here =
    let k : ends old.wants (made old.maker) ≡ Some (made new.maker) = subst (λ (x : Bool). AnswersEnd old new x) is answers in
    let w = ends-whole (includes ++ body) body rest (state_of old) n (made new.maker) refl so_far (at_end (includes ++ body) rest at here) k in
    subst (λ (u : List ItemTree). HasOutcome (includes ++ body) (whole u)) (unit_seen new.maker.unit new.maker.values w.0 w.1) w.2

pub end_early : (at : ℕ) (old new : Machine) (b : Bool) → AnswersEnd old new b → b ≡ false → EndsThere at old new (ending.NotC at)
end_early at old new b answers is body rest n so_far here =
    ends-early (includes ++ body) body rest (state_of old) n at refl so_far here (subst (λ (x : Bool). AnswersEnd old new x) is answers)

opening_bare : (k : Kind) (text : List ℕ) → is_opening (token_of k text) ≡ is_opening (bare k)
opening_bare (kinds.Keyword w) text = refl
opening_bare kinds.Name text = refl
opening_bare (kinds.Number n) text = refl
opening_bare kinds.Text text = refl
opening_bare (kinds.Operator o) text = refl
opening_bare (kinds.Mark m) text = refl

after_bare : (n : ℕ) (k : Kind) (text : List ℕ) → open_after n (token_of k text) ≡ open_after n (bare k)
after_bare n (kinds.Keyword w) text = refl
after_bare n kinds.Name text = refl
after_bare n (kinds.Number n2) text = refl
after_bare n kinds.Text text = refl
after_bare n (kinds.Operator o) text = refl
after_bare n (kinds.Mark m) text = refl

and-left : (a b : Bool) → (a && b) ≡ true → a ≡ true
and-left true b h = refl
and-left false b h = absurd (cc h)

and-right : (a b : Bool) → (a && b) ≡ true → b ≡ true
and-right true b h = h
and-right false b h = absurd (cc h)

-- A bracket that is one too many.
pub too_deep_there : (at depth : ℕ) (kind : Kind) (text tail : List ℕ) (old new : Machine) (d : Bool) → d ≡ (is_opening (bare kind) && nat_eq depth 512) → d ≡ true → StepsThere at depth (token_of kind text) tail old new (step.Ends (ending.TooDeep at))
too_deep_there at depth kind text tail old new d is deep body rest behind so_far here stands =
    let both : (is_opening (bare kind) && nat_eq depth 512) ≡ true = sym is ∙ deep in
    let opens : is_opening (token_of kind text) ≡ true = opening_bare kind text ∙ and-left (is_opening (bare kind)) (nat_eq depth 512) both in
    let full : depth ≡ 512 = eqb-true depth 512 (and-right (is_opening (bare kind)) (nat_eq depth 512) both) in
    stops-deep (includes ++ body) body rest behind (state_of old) at (token_of kind text) tail refl (subst (λ (n : ℕ). ReadSoFar body rest (state_of old) n) full so_far) here opens stands

shallow : (depth : ℕ) (kind : Kind) (text : List ℕ) → depth ≤ 512 → (is_opening (bare kind) && nat_eq depth 512) ≡ false → is_opening (token_of kind text) ≡ true → depth < 512
shallow depth kind text few test opens = by_test (nat_eq depth 512) refl
  where
    bare_opens : is_opening (bare kind) ≡ true
    bare_opens = sym (opening_bare kind text) ∙ opens

    by_test : (b : Bool) → nat_eq depth 512 ≡ b → depth < 512
    by_test true e = let k : (true && true) ≡ false = sym (ap (λ x. x && nat_eq depth 512) bare_opens ∙ ap (λ x. true && x) e) ∙ test in absurd (cc k)
    by_test false e = grind (arith, few, e, other)
      where
        other : depth ≡ 512 → ⊥
        other q = let k : nat_eq 512 512 ≡ false = ap (λ x. nat_eq x 512) (sym q) ∙ e in absurd (cc k)

no_rest : (t : CToken) (tail : List ℕ) → IsToken t → [] ≡ token_bytes t ++ tail → ⊥
no_rest t tail l h = empty (token_bytes t) (begins-token t l) h
  where
    empty : (xs : List ℕ) → BeginsAs (token_sort t) xs → [] ≡ xs ++ tail → ⊥
    empty [] b e = b
    empty (x ∷ xs) b e = absurd (cc e)

-- A token that the machine refuses.
pub refused_there : (at depth : ℕ) (kind : Kind) (text tail : List ℕ) (old new : Machine) (d taken : Bool) → depth ≤ 512 → d ≡ (is_opening (bare kind) && nat_eq depth 512) → d ≡ false → AnswersToken (token_of kind text) old new taken → taken ≡ false → StepsThere at depth (token_of kind text) tail old new (step.Ends (ending.NotC at))
refused_there at depth kind text tail old new d taken few is fine answers refused body rest [] so_far here stands = absurd (no_rest (token_of kind text) tail stands.lawful stands.cut)
refused_there at depth kind text tail old new d taken few is fine answers refused body rest (b ∷ bs) so_far here stands =
    let none : feed old.wants (made old.maker) (token_of kind text) ≡ None = subst (λ (x : Bool). AnswersToken (token_of kind text) old new x) refused answers in
    stops-at (includes ++ body) body rest (state_of old) depth at b bs (token_of kind text) tail refl so_far here stands none (shallow depth kind text few (sym is ∙ fine))

longer_rest : (gap behind tail rest : List ℕ) (t : CToken) → IsToken t → rest ≡ gap ++ behind → behind ≡ token_bytes t ++ tail → length tail < length rest
longer_rest gap behind tail rest t l cut more =
    let a = length-append gap behind in
    let b = length-append (token_bytes t) tail in
    let c : length rest ≡ length gap + length behind = ap length cut ∙ a in
    let d : length behind ≡ length (token_bytes t) + length tail = ap length more ∙ b in
    omega (arith, c, d, some (token_bytes t) (begins-token t l))
  where
    some : (xs : List ℕ) → BeginsAs (token_sort t) xs → 0 < length xs
    some [] h = absurd h
    some (x ∷ xs) h = omega arith

after_few : (depth : ℕ) (k : Kind) → depth ≤ 512 → (is_opening (bare k) && nat_eq depth 512) ≡ false → (is_opening (bare k) ≡ true → depth < 512) → open_after depth (bare k) ≤ 512
after_few depth (kinds.Keyword w) few t o = few
after_few depth kinds.Name few t o = few
after_few depth (kinds.Number n) few t o = few
after_few depth kinds.Text few t o = few
after_few depth (kinds.Operator x) few t o = few
after_few depth (kinds.Mark mark.OpenParen) few t o = omega (arith, o refl)
after_few depth (kinds.Mark mark.OpenBracket) few t o = omega (arith, o refl)
after_few depth (kinds.Mark mark.OpenBrace) few t o = omega (arith, o refl)
after_few depth (kinds.Mark mark.CloseParen) few t o = omega (arith, few)
after_few depth (kinds.Mark mark.CloseBracket) few t o = omega (arith, few)
after_few depth (kinds.Mark mark.CloseBrace) few t o = omega (arith, few)
after_few depth (kinds.Mark m) few t o = few

-- A token that is read.
pub taken_there : (at depth now : ℕ) (kind : Kind) (text : List ℕ) (tail : _) (old new : Machine) (d taken : Bool) → depth ≤ 512 → d ≡ (is_opening (bare kind) && nat_eq depth 512) → d ≡ false → AnswersToken (token_of kind text) old new taken → taken ≡ true → now ≡ open_after depth (bare kind) → StepsThere at depth (token_of kind text) tail.now old new (step.GoesOn tail now)
taken_there at depth now kind text tail old new d taken few is fine answers read after body rest behind so_far here stands =
    let some : feed old.wants (made old.maker) (token_of kind text) ≡ Some (state_of new) = subst (λ (x : Bool). AnswersToken (token_of kind text) old new x) read answers in
    let test : (is_opening (bare kind) && nat_eq depth 512) ≡ false = sym is ∙ fine in
    let on = goes-on-here (includes ++ body) body rest behind tail.now (state_of old) (state_of new) depth at (token_of kind text) so_far here stands some (shallow depth kind text few test) in
    let count : open_after depth (token_of kind text) ≡ now = after_bare depth kind text ∙ sym after in
    let few_now : now ≤ 512 = subst (λ (n : ℕ). n ≤ 512) (sym after) (after_few depth kind few test (λ o. shallow depth kind text few test (opening_bare kind text ∙ o))) in
    (subst (λ (n : ℕ). ReadSoFar body tail.now (state_of new) n) count on, few_now, longer_rest here.gap behind tail.now rest (token_of kind text) stands.lawful here.cut stands.cut)

-- Where the next token stands.
pub stands_next : (size n : ℕ) (rest behind body : List ℕ) (at : ℕ) → list_all is_gap_byte (take n rest) ≡ true → begins is_gap_byte (drop n rest) ≡ false → behind ≡ drop n rest → length behind ≤ size → at ≡ size - length behind → size ≡ length (includes ++ body) → StandsAt (includes ++ body) rest behind at
stands_next size n rest behind body at blank stops is within place whole_is = record {
  gap = take n rest;
  blank = blank;
  cut = sym (take-append-drop n rest) ∙ ap (λ x. take n rest ++ x) (sym is);
  stops = ap (begins is_gap_byte) is ∙ stops;
  place_is = omega (arith, place, within, whole_is);
}

pub next_ends : (size n : ℕ) (rest behind : List ℕ) (depth at : ℕ) (old new : Machine) (e : Ending) → list_all is_gap_byte (take n rest) ≡ true → begins is_gap_byte (drop n rest) ≡ false → behind ≡ drop n rest → length behind ≤ size → at ≡ size - length behind → behind ≡ [] → EndsThere at old new e → StepsOn size rest depth old new (step.Ends e)
next_ends size n rest behind depth at old new e blank stops is within place empty there body whole_is so_far =
    there body rest depth so_far (subst (λ (x : List ℕ). StandsAt (includes ++ body) rest x at) empty (stands_next size n rest behind body at blank stops is within place whole_is))

pub next_steps : (size n : ℕ) (rest behind : List ℕ) (depth at : ℕ) (old new : Machine) (t : CToken) (tail : List ℕ) (s : _) → list_all is_gap_byte (take n rest) ≡ true → begins is_gap_byte (drop n rest) ≡ false → behind ≡ drop n rest → length behind ≤ size → at ≡ size - length behind → Stands t behind tail → StepsThere at depth t tail old new s → StepsOn size rest depth old new s
next_steps size n rest behind depth at old new t tail s blank stops is within place stands there body whole_is so_far =
    there body rest behind so_far (stands_next size n rest behind body at blank stops is within place whole_is) stands

pub next_bare : (size n : ℕ) (rest behind : List ℕ) (depth at : ℕ) (old new : Machine) → list_all is_gap_byte (take n rest) ≡ true → begins is_gap_byte (drop n rest) ≡ false → behind ≡ drop n rest → length behind ≤ size → at ≡ size - length behind → 0 < length behind → NoToken behind → StepsOn size rest depth old new (step.Ends (ending.NotC at))
next_bare size n rest behind depth at old new blank stops is within place some none body whole_is so_far = by_list behind (stands_next size n rest behind body at blank stops is within place whole_is) some none
  where
    by_list : (xs : List ℕ) → StandsAt (includes ++ body) rest xs at → 0 < length xs → NoToken xs → HasOutcome (includes ++ body) (not_c at)
    by_list [] here k absent = absurd (omega (arith, k))
    by_list (b ∷ bs) here k absent = stops-bare (includes ++ body) body rest (state_of old) depth at b bs refl so_far here absent

pub behind_within : (size n : ℕ) (rest behind : List ℕ) → behind ≡ drop n rest → length rest ≤ size → length behind ≤ size
behind_within size n rest behind is within = let a : length behind ≡ length (drop n rest) = ap length is in omega (arith, a, length-drop n rest, within)
