-- Bytes are read to the end of a text, or refused at a place.
use Rattle.std.proofs.Common.{◌≡◌, ◌⊎◌, inl, inr, ℕ, zero, suc, ◌-◌, ◌<◌, ◌≤◌, Bool, true, false, nat_eq, Option, None, Some, Ok, Err, List, [], ◌∷◌, ◌++◌, length, refl, sym, ◌∙◌, ap, subst, arith, length-append, append-nil, append_assoc}
use Rattle.std.proofs.lemmas.Bool.{eqb-true}
use Rattle.std.proofs.lemmas.Bool.Decides.{nat_tests}
use Rattle.c_text.specs.declared.tokens.CMark.TheVariants as mark
use Rattle.c_text.specs.CNodes.{unit_tree}
use Rattle.c_text.specs.CSpelling.{CToken, keyword, named, literal, quoted, operator, marked, token_bytes, is_gap_byte, IsGap, includes}
use Rattle.c_text.specs.CTree.{ItemTree}
use Rattle.c_read_grammar.proofs.TextTokens.{one-text}
use Rattle.c_read_grammar.specs.Feeding.{State, feed, ends, start}
use Rattle.c_read_grammar.specs.Outcomes.{Outcome, whole, too_deep, not_c, HasOutcome, StandsAt, stddef_line, stdint_line, string_line}
use Rattle.c_read_grammar.specs.Progress.{ReadSoFar}
use Rattle.c_read_grammar.specs.Texts.{IsToken, is_opening, open_after}
use Rattle.c_read_grammar.specs.Values.{Val}
use Rattle.c_read_grammar.proofs.FirstBytes.{BeginsAs, begins-token, token_sort}
use Rattle.c_read_grammar.proofs.OneOutcome.{one-outcome}
use Rattle.c_read_grammar.proofs.Progress.{begins-reading, goes-on-here, ends-whole, ends-early, stops-at, stops-bare, stops-deep}
use Rattle.c_read.specs.declared.faults.ReadFault.TheVariants as fault
use Rattle.c_read_laws.specs.OutcomeLaws.{BytesAreReadOrRefused, IsWholeOrTooDeep, TextsAreWholeOrTooDeep, AnAnswerIsTheOutcome}
use Rattle.c_read_laws.proofs.Refused.{refused-no-text}
use Rattle.c_read_laws.proofs.Fronts.{Cut, cut-front, HasToken, NoToken, token-or-none}

abbrev HasAnOutcome : List ℕ → Type 0
HasAnOutcome bytes = (outcome : Outcome) × HasOutcome bytes outcome

-- Brackets after a token.
after-few : (n : ℕ) (t : CToken) → n ≤ 512 → (is_opening t ≡ true → n < 512) → open_after n t ≤ 512
after-few n (keyword w) few o = few
after-few n (named name) few o = few
after-few n (literal number) few o = few
after-few n (quoted bytes) few o = few
after-few n (operator op) few o = few
after-few n (marked mark.OpenParen) few o = omega (arith, o refl)
after-few n (marked mark.OpenBracket) few o = omega (arith, o refl)
after-few n (marked mark.OpenBrace) few o = omega (arith, o refl)
after-few n (marked mark.CloseParen) few o = omega (arith, few)
after-few n (marked mark.CloseBracket) few o = omega (arith, few)
after-few n (marked mark.CloseBrace) few o = omega (arith, few)
after-few n (marked m) few o = few

-- A bracket is one too many here, or none is.
deep-or-not : (n : ℕ) (t : CToken) → n ≤ 512 → ((is_opening t ≡ true) × (n ≡ 512)) ⊎ (is_opening t ≡ true → n < 512)
deep-or-not n t few = by_tests (is_opening t) (nat_eq n 512) refl refl
  where
    fewer : nat_eq n 512 ≡ false → n < 512
    fewer e = grind (arith, nat_tests, few, e)

    by_tests : (a b : Bool) → is_opening t ≡ a → nat_eq n 512 ≡ b → ((is_opening t ≡ true) × (n ≡ 512)) ⊎ (is_opening t ≡ true → n < 512)
    by_tests true true o e = inl (o, eqb-true n 512 e)
    by_tests true false o e = inr (λ h. fewer e)
    by_tests false b o e = inr (λ h. absurd (cc (h, o)))

-- Less is left after a token.
tail-shorter : (gap behind tail rest : List ℕ) (t : CToken) → IsToken t → rest ≡ gap ++ behind → behind ≡ token_bytes t ++ tail → length tail < length rest
tail-shorter gap behind tail rest t l cut more =
    let a = length-append gap behind in
    let b = length-append (token_bytes t) tail in
    let c : length rest ≡ length (gap ++ behind) = ap length cut in
    let d : length behind ≡ length (token_bytes t ++ tail) = ap length more in
    omega (arith, a, b, c, d, some (token_bytes t) (begins-token t l))
  where
    some : (xs : List ℕ) → BeginsAs (token_sort t) xs → 0 < length xs
    some [] h = absurd h
    some (x ∷ xs) h = omega arith

-- A reader on its way.
record Reads (bytes body rest : List ℕ) : Type 0 where
  state : State
  brackets : ℕ
  begun : bytes ≡ includes ++ body
  so_far : ReadSoFar body rest state brackets
  few : brackets ≤ 512
  within : length rest ≤ length bytes

stands-here : (bytes body rest : List ℕ) → Reads bytes body rest → (c : Cut is_gap_byte rest) → StandsAt bytes rest c.back (length bytes - length c.back)
stands-here bytes body rest r c =
    let count : length rest ≡ length (c.front ++ c.back) = ap length c.cut in
    let sum = length-append c.front c.back in
    let within = r.within in
    record { gap = c.front; blank = c.run; cut = c.cut; stops = c.stops; place_is = omega (arith, count, sum, within) }

-- The end of the bytes.
end-decided : (bytes body rest : List ℕ) (place : ℕ) → Reads bytes body rest → StandsAt bytes rest [] place → HasAnOutcome bytes
end-decided bytes body rest place r here = by_end (ends r.state.wanted r.state.vals) refl
  where
    blank : IsGap rest
    blank = subst IsGap (sym (here.cut ∙ append-nil here.gap)) here.blank

    by_end : (o : Option (List Val)) → ends r.state.wanted r.state.vals ≡ o → HasAnOutcome bytes
    by_end (Some made) e = let w = ends-whole bytes body rest r.state r.brackets made r.begun r.so_far blank e in (whole w.0, w.2)
    by_end None e = (not_c place, ends-early bytes body rest r.state r.brackets place r.begun r.so_far here e)

-- A token that stands here is read, with which less is left; or there is an outcome.
abbrev Goes : (bytes body rest : List ℕ) → Type 0
Goes bytes body rest = (tail : List ℕ) × Reads bytes body tail × (length tail < length rest)

token-decided : (bytes body rest : List ℕ) (place byte : ℕ) (others : List ℕ) → Reads bytes body rest → StandsAt bytes rest (byte ∷ others) place → HasToken (byte ∷ others) → HasAnOutcome bytes ⊎ Goes bytes body rest
token-decided bytes body rest place byte others r here (t, tail, stands) = by_depth (deep-or-not r.brackets t r.few)
  where
    by_feed : (is_opening t ≡ true → r.brackets < 512) → (o : Option State) → feed r.state.wanted r.state.vals t ≡ o → HasAnOutcome bytes ⊎ Goes bytes body rest
    by_feed shallow None e = inl (not_c place, stops-at bytes body rest r.state r.brackets place byte others t tail r.begun r.so_far here stands e shallow)
    by_feed shallow (Some next) e =
        let less = tail-shorter here.gap (byte ∷ others) tail rest t stands.lawful here.cut stands.cut in
        let within = r.within in
        inr (
          tail,
          record {
            state = next;
            brackets = open_after r.brackets t;
            begun = r.begun;
            so_far = goes-on-here bytes body rest (byte ∷ others) tail r.state next r.brackets place t r.so_far here stands e shallow;
            few = after-few r.brackets t r.few shallow;
            within = omega (arith, less, within);
          },
          less,
        )

    by_depth : ((is_opening t ≡ true) × (r.brackets ≡ 512)) ⊎ (is_opening t ≡ true → r.brackets < 512) → HasAnOutcome bytes ⊎ Goes bytes body rest
    by_depth (inl deep) = inl (too_deep place, stops-deep bytes body rest (byte ∷ others) r.state place t tail r.begun (subst (λ (n : ℕ). ReadSoFar body rest r.state n) deep.1 r.so_far) here deep.0 stands)
    by_depth (inr shallow) = by_feed shallow (feed r.state.wanted r.state.vals t) refl

next : (bytes body rest : List ℕ) → Reads bytes body rest → HasAnOutcome bytes ⊎ Goes bytes body rest
next bytes body rest r = by_cut (cut-front is_gap_byte rest)
  where
    by_token : (place byte : ℕ) (others : List ℕ) → StandsAt bytes rest (byte ∷ others) place → HasToken (byte ∷ others) ⊎ NoToken (byte ∷ others) → HasAnOutcome bytes ⊎ Goes bytes body rest
    by_token place byte others here (inl there) = token-decided bytes body rest place byte others r here there
    by_token place byte others here (inr none) = inl (not_c place, stops-bare bytes body rest r.state r.brackets place byte others r.begun r.so_far here none)

    by_behind : (place : ℕ) (behind : List ℕ) → StandsAt bytes rest behind place → HasAnOutcome bytes ⊎ Goes bytes body rest
    by_behind place [] here = inl (end-decided bytes body rest place r here)
    by_behind place (byte ∷ others) here = by_token place byte others here (token-or-none byte others)

    by_cut : Cut is_gap_byte rest → HasAnOutcome bytes ⊎ Goes bytes body rest
    by_cut c = by_behind (length bytes - length c.back) c.back (stands-here bytes body rest r c)

read-on : (n : ℕ) (bytes body rest : List ℕ) → Reads bytes body rest → length rest < n → HasAnOutcome bytes
read-on zero bytes body rest r small = absurd (omega (arith, small))
read-on (suc n) bytes body rest r small = by_next (λ tail later less. read-on n bytes body tail later less) (next bytes body rest r)
  where
    by_next : ((tail : List ℕ) → Reads bytes body tail → length tail < n → HasAnOutcome bytes) → HasAnOutcome bytes ⊎ Goes bytes body rest → HasAnOutcome bytes
    by_next others (inl outcome) = outcome
    by_next others (inr g) = let less = g.2 in others g.0 g.1 (omega (arith, less, small))

-- A line at the front, or none.
line-or-not : (line bytes : List ℕ) → ((rest : List ℕ) × (bytes ≡ line ++ rest)) ⊎ ((more : List ℕ) → bytes ≡ line ++ more → ⊥)
line-or-not [] bytes = inl (bytes, refl)
line-or-not (letter ∷ line) [] = inr (λ more e. absurd (cc e))
line-or-not (letter ∷ line) (byte ∷ bytes) = by_test (line-or-not line bytes) (nat_eq byte letter) refl
  where
    both : (rest : List ℕ) → byte ≡ letter → bytes ≡ line ++ rest → byte ∷ bytes ≡ letter ∷ (line ++ rest)
    both rest p q = cc (p, q)

    by_test : ((rest : List ℕ) × (bytes ≡ line ++ rest)) ⊎ ((more : List ℕ) → bytes ≡ line ++ more → ⊥) → (b : Bool) → nat_eq byte letter ≡ b
        → ((rest : List ℕ) × (byte ∷ bytes ≡ letter ∷ (line ++ rest))) ⊎ ((more : List ℕ) → byte ∷ bytes ≡ letter ∷ (line ++ more) → ⊥)
    by_test (inl there) true e = inl (there.0, both there.0 (eqb-true byte letter e) there.1)
    by_test (inr lacks) true e = inr (λ more h. let k : bytes ≡ line ++ more = cc h in lacks more k)
    by_test there false e = inr (λ more h. let k : byte ≡ letter = cc h in absurd (grind (arith, nat_tests, k, e)))

-- Every list of bytes.
an-outcome : (bytes : List ℕ) → HasAnOutcome bytes
an-outcome bytes = by_first (line-or-not stddef_line bytes)
  where
    two-lines : (rest last : List ℕ) → bytes ≡ stddef_line ++ rest → rest ≡ stdint_line ++ last → bytes ≡ (stddef_line ++ stdint_line) ++ last
    two-lines rest last cut more = cut ∙ ap (λ x. stddef_line ++ x) more ∙ sym (append_assoc stddef_line stdint_line last)

    by_body : (last body : List ℕ) → bytes ≡ (stddef_line ++ stdint_line) ++ last → last ≡ string_line ++ body → HasAnOutcome bytes
    by_body last body cut more =
        let begun : bytes ≡ includes ++ body = cut ∙ ap (λ x. (stddef_line ++ stdint_line) ++ x) more ∙ sym (append_assoc (stddef_line ++ stdint_line) string_line body) in
        let count : length bytes ≡ length (includes ++ body) = ap length begun in
        let sum = length-append includes body in
        read-on (suc (length body)) bytes body body (record { state = start; brackets = 0; begun = begun; so_far = begins-reading body; few = omega arith; within = omega (arith, count, sum) }) (omega arith)

    by_third : (last : List ℕ) → bytes ≡ (stddef_line ++ stdint_line) ++ last → ((body : List ℕ) × (last ≡ string_line ++ body)) ⊎ ((more : List ℕ) → last ≡ string_line ++ more → ⊥) → HasAnOutcome bytes
    by_third last cut (inl there) = by_body last there.0 cut there.1
    by_third last cut (inr lacks) = (not_c (length (stddef_line ++ stdint_line)), inl (inr (inr (record { rest = last; begun = cut; other = lacks; place_is = refl }))))

    by_second : (rest : List ℕ) → bytes ≡ stddef_line ++ rest → ((last : List ℕ) × (rest ≡ stdint_line ++ last)) ⊎ ((more : List ℕ) → rest ≡ stdint_line ++ more → ⊥) → HasAnOutcome bytes
    by_second rest cut (inl there) = by_third there.0 (two-lines rest there.0 cut there.1) (line-or-not string_line there.0)
    by_second rest cut (inr lacks) = (not_c (length stddef_line), inl (inr (inl (record { rest = rest; begun = cut; other = lacks; place_is = refl }))))

    by_first : ((rest : List ℕ) × (bytes ≡ stddef_line ++ rest)) ⊎ ((more : List ℕ) → bytes ≡ stddef_line ++ more → ⊥) → HasAnOutcome bytes
    by_first (inl there) = by_second there.0 there.1 (line-or-not stdint_line there.0)
    by_first (inr lacks) = (not_c 0, inl (inl (record { rest = bytes; begun = refl; other = lacks; place_is = refl })))

pub read-or-refused : BytesAreReadOrRefused
read-or-refused bytes = let o = an-outcome bytes in (o.0, o.1, λ other h. one-outcome bytes other o.0 h o.1)

-- A text of a tree.
pub whole-or-deep : TextsAreWholeOrTooDeep
whole-or-deep bytes tree x = by_outcome (an-outcome bytes)
  where
    by_outcome : HasAnOutcome bytes → IsWholeOrTooDeep bytes tree
    by_outcome (whole u, h) = inl (subst (λ (t : List ItemTree). HasOutcome bytes (whole t)) (one-text bytes u tree h.0 x) h)
    by_outcome (too_deep place, h) = inr (place, h)
    by_outcome (not_c place, h) = absurd (refused-no-text bytes place tree h x)

-- What the reader answers.
pub answer-is : AnAnswerIsTheOutcome
answer-is bytes outcome (Ok unit) h a = one-outcome bytes outcome (whole (unit_tree unit)) h a
answer-is bytes outcome (Err (fault.TooDeep at)) h a = one-outcome bytes outcome (too_deep at) h a
answer-is bytes outcome (Err (fault.NotC at)) h a = one-outcome bytes outcome (not_c at) h a
answer-is bytes outcome (Err fault.Memory) h a = tt
