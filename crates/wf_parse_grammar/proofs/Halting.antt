-- What one token does to a stack with limits: it goes on within them, or it is refused for one reason.
use Rattle.std.proofs.Common.{◌≡◌, ◌∙◌, ◌+◌, ◌-◌, ◌≤◌, ◌<◌, ap, sym, subst, ℕ, zero, suc, Bool, true, false, ◌&&◌, ◌⊎◌, inl, inr, None, Some, List, [], ◌∷◌, ◌++◌, refl, nat_eq, nat_le, arith}
use Rattle.std.proofs.lemmas.Bool.Decides.{nat_tests}
use Rattle.wf_text.specs.declared.rules.Rule.{Rule}
use Rattle.wf_text.specs.declared.rules.Rule.TheVariants.{S5, L4, L5}
use Rattle.wf_parse_grammar.specs.declared.tokens.Kind.{Kind}
use Rattle.wf_parse_grammar.specs.declared.tokens.Kind.TheVariants as kinds
use Rattle.wf_parse_grammar.specs.declared.tokens.Token.{Token}
use Rattle.wf_parse_grammar.specs.declared.symbols.Sym.{Sym}
use Rattle.wf_parse_grammar.specs.declared.symbols.Sym.TheVariants as syms
use Rattle.wf_parse_grammar.specs.Machine.{Move, Take, Begin, Enter, Pass, Stop, move, may_end, opens, owes, one_more_if, open_count}
use Rattle.wf_parse_grammar.specs.Brackets.{one_if, is_opening}
use Rattle.wf_parse_grammar.specs.Statements.{is_break, begins_statement, one_more_where, counted, break_from, count_from}
use Rattle.wf_parse_grammar.specs.Feeding.{fed, feed}
use Rattle.wf_parse_grammar.proofs.StopRules.{is_wrong, stops, Stops}
use Rattle.wf_parse_grammar.proofs.BracketLaws.{feed-counts}
use Rattle.wf_parse_grammar.proofs.MoveShapes.{is_fresh, is_body, all_calm, bodied, is_head, is_curly, is_vars, fits, all_fit}
use Rattle.wf_parse_grammar.proofs.StatementShapes.{phase_of, phase, Needs, Counts, both, apart, body-two, phase-two, phase-one, needs-body, fresh-body, passing-head, last_one, begins-break, begins-func, curly-break, break-begins, break-func, count-behind, count-same, calm-top, calm-sound}
use Rattle.wf_parse_grammar.proofs.StatementLaws.{not-one, head-back, take-counts, is_vars-list, outside-counts}
use Rattle.wf_parse_grammar.proofs.Tracking.{Turn, Goes, Halts, halts_if, turned, turn, and_then, track, turn-feed}

-- What a test lets through.
pub record Passed (b : Bool) (room : ℕ) (wanted : List Sym) (left : ℕ) (next : List Sym) : Type 0 where
  pub test : b ≡ false
  pub room' : room ≡ left
  pub wanted' : wanted ≡ next

goes-if : (b : Bool) (r : Rule) (room : ℕ) (wanted : List Sym) (left : ℕ) (next : List Sym) → halts_if b r (Goes room wanted) ≡ Goes left next → Passed b room wanted left next
goes-if true r room wanted left next e = absurd (cc e)
goes-if false r room wanted left next e = record { test = refl; room' = cc e; wanted' = cc e }

halts-if : (b : Bool) (r q : Rule) (room : ℕ) (wanted : List Sym) → halts_if b r (Goes room wanted) ≡ Halts q → (b ≡ true) × (q ≡ r)
halts-if true r q room wanted e = (refl, cc e)
halts-if false r q room wanted e = absurd (cc e)

moved-counts : (xs k : List Sym) (b : Bool) (n room left : ℕ) (next : List Sym) → room ≡ left → xs ++ k ≡ next → Counts (xs ++ k) b n room → Counts next b n left
moved-counts xs k b n room left next e f c =
    let d = subst (λ r. Counts (xs ++ k) b n r) e c in
    subst (λ j. Counts j b n left) f d

-- A statement begins.
is-behind : (s : Sym) (k : List Sym) (b : Bool) (n room : ℕ) → is_fresh s ≡ true → Counts (s ∷ k) b n room → b ≡ true
is-behind s k true n room h i = refl
is-behind s k false n room h i = absurd (apart (is_fresh s) h (i.later refl))

count-begin : (b : Bool) (n : ℕ) (t : Kind) → b ≡ true → begins_statement t ≡ true → counted b n t ≡ suc n
count-begin true n t e h = count-behind n t (begins-func t h) ∙ ap (λ c. one_more_where c n) h
count-begin false n t e h = absurd (cc e)

nonzero : (n : ℕ) → nat_eq n 0 ≡ false → 1 ≤ n
nonzero zero h = absurd (cc h)
nonzero (suc n) h = omega arith

begin-counts : (s : Sym) (t : Kind) (xs k : List Sym) (b : Bool) (n room : ℕ) → is_fresh s ≡ true → begins_statement t ≡ true → all_calm xs ≡ true → nat_eq room 0 ≡ false
    → Counts (s ∷ k) b n room → Counts (xs ++ k) (is_break t) (counted b n t) (room - 1)
begin-counts s t xs k b n room fs bt c nz i =
    let more : counted b n t ≡ suc n = count-begin b n t (is-behind s k b n room fs i) bt in
    let bs = fresh-body s fs in
    let two : phase (s ∷ k) ≡ 2 = body-two s (phase k) bs in
    let whole : room + n ≡ 4096 = i.inside two in
    let some : 1 ≤ room = nonzero room nz in
    let all : (room - 1) + suc n ≡ 4096 = omega (arith, whole, some) in
    let few : suc n ≤ 4096 = omega (arith, whole, some) in
    record {
      sound = calm-sound xs k c (λ e. needs-body s k bs i.sound.0) i.sound.1 i.sound.2;
      first = λ e. absurd (apart (is_break t) e (begins-break t bt));
      later = λ e. calm-top xs k c i.sound.1;
      inside = λ e. ap (λ m. (room - 1) + m) more ∙ all;
      head = λ e. let q : 2 ≡ 1 = sym two ∙ head-back s xs k (bodied xs) refl c i.sound.0 e in absurd (cc q);
      most = subst (λ m. m ≤ 4096) (sym more) few;
    }

-- A method's block is entered.
head-needs : (s : Sym) (k : List Sym) → is_head s ≡ true → Needs s k → k ≡ syms.ASemicolon ∷ syms.File ∷ []
head-needs syms.MethodTail k h n = n
head-needs syms.Body k h n = n
head-needs _ k h n = absurd (cc h)

head-one : (s : Sym) (n : ℕ) → is_head s ≡ true → phase_of s n ≡ 1
head-one syms.MethodTail n h = refl
head-one syms.Body n h = refl
head-one _ n h = absurd (cc h)

block-start : (b : Bool) (n : ℕ) → b ≡ true → n ≡ 0 → Counts (syms.Vars ∷ syms.ASemicolon ∷ syms.File ∷ []) b n 4096
block-start b n bt z = record {
  sound = (refl, refl, (refl, refl, (refl, refl, tt)));
  first = λ e. refl;
  later = λ e. absurd (apart b bt e);
  inside = λ e. ap (λ m. 4096 + m) z;
  head = λ e. z;
  most = subst (λ m. m ≤ 4096) (sym z) (omega arith);
}

enter-counts : (s : Sym) (t : Kind) (xs k : List Sym) (b : Bool) (n room : ℕ) → is_curly t ≡ true → is_head s ≡ true → is_vars xs ≡ true
    → Counts (s ∷ k) b n room → Counts (xs ++ k) (is_break t) (counted b n t) 4096
enter-counts s t xs k b n room ct hs v i =
    let bt = curly-break t ct in
    let same : counted b n t ≡ n = count-same b n t (break-func t bt) (λ e. break-begins t bt) in
    let e : xs ++ k ≡ syms.Vars ∷ syms.ASemicolon ∷ syms.File ∷ [] = ap (λ ys. ys ++ k) (is_vars-list xs v) ∙ ap (λ j. syms.Vars ∷ j) (head-needs s k hs i.sound.0) in
    subst (λ j. Counts j (is_break t) (counted b n t) 4096) (sym e) (block-start (is_break t) (counted b n t) bt (same ∙ i.head (head-one s (phase k) hs)))

-- What passes a token on.
pass-on : (s : Sym) (k : List Sym) (b : Bool) (n room : ℕ) → may_end s ≡ true → Counts (s ∷ k) b n room → (k ≡ []) ⊎ Counts k b n room
pass-on s k true n room h i = inl (last_one s k h (i.first refl) i.sound.0)
pass-on s k false n room h i = inr (record {
  sound = i.sound.2;
  first = λ e. absurd (cc e);
  later = λ e. i.sound.1;
  inside = λ e. i.inside (ap (phase_of s) e ∙ phase-two s (passing-head s h));
  head = λ e. i.head (on-body (is_body s) refl e);
  most = i.most;
})
  where
    on-body : (b : Bool) → is_body s ≡ b → phase k ≡ 1 → phase (s ∷ k) ≡ 1
    on-body true g q = absurd (not-one (phase k) (needs-body s k g i.sound.0) q)
    on-body false g q = ap (phase_of s) q ∙ phase-one s g

-- A token that is read keeps the count.
move-counts : (s : Sym) (t : Kind) (w : Move) (k : List Sym) (b : Bool) (n room : ℕ) (x : Turn) (left : ℕ) (next : List Sym) → fits s t w ≡ true → Counts (s ∷ k) b n room
    → (k ≡ [] → x ≡ Halts S5) → (Counts k b n room → x ≡ Goes left next → Counts next (is_break t) (counted b n t) left)
    → turned room w (s ∷ k) k t x ≡ Goes left next → Counts next (is_break t) (counted b n t) left
move-counts s t (Take xs) k b n room x left next h i f g e =
    let p = goes-if (opens t && nat_le 48 (open_count (s ∷ k))) L4 room (xs ++ k) left next e in
    moved-counts xs k (is_break t) (counted b n t) room left next p.room' p.wanted' (take-counts s t xs k b n room h i)
move-counts s t (Begin xs) k b n room x left next h i f g e =
    let p = goes-if (nat_eq room 0) L5 (room - 1) (xs ++ k) left next e in
    let c1 = both (is_fresh s) (begins_statement t && all_calm xs) h in
    let c2 = both (begins_statement t) (all_calm xs) c1.1 in
    moved-counts xs k (is_break t) (counted b n t) (room - 1) left next p.room' p.wanted' (begin-counts s t xs k b n room c1.0 c2.0 c2.1 p.test i)
move-counts s t (Enter xs) k b n room x left next h i f g e =
    let p = goes-if (nat_le 48 (open_count (s ∷ k))) L4 4096 (xs ++ k) left next e in
    let c1 = both (is_curly t) (is_head s && is_vars xs) h in
    let c2 = both (is_head s) (is_vars xs) c1.1 in
    moved-counts xs k (is_break t) (counted b n t) 4096 left next p.room' p.wanted' (enter-counts s t xs k b n room c1.0 c2.0 c2.1 i)
move-counts s t Pass k b n room x left next h i f g e = on-pass (pass-on s k b n room h i)
  where
    on-pass : (k ≡ []) ⊎ Counts k b n room → Counts next (is_break t) (counted b n t) left
    on-pass (inl z) = let q : Halts S5 ≡ Goes left next = sym (f z) ∙ e in absurd (cc q)
    on-pass (inr c) = g c e
move-counts s t (Stop r) k b n room x left next h i f g e = absurd (cc e)

pub turn-counts : (k : List Sym) (t : Kind) (b : Bool) (n room left : ℕ) (next : List Sym) → Counts k b n room → turn room k t ≡ Goes left next → Counts next (is_break t) (counted b n t) left
turn-counts [] t b n room left next i e = absurd (cc e)
turn-counts (s ∷ k) t b n room left next i e =
    move-counts s t (move s t) k b n room (turn room k t) left next (all_fit s t) i (λ z. ap (λ j. turn room j t) z) (λ c g. turn-counts k t b n room left next c g) e

then-counts : (x : Turn) (t : Token) (ts : List Token) (k : List Sym) (b : Bool) (n room left : ℕ) (next : List Sym) → turn room k t.kind ≡ x → Counts k b n room
    → ((room : ℕ) (k : List Sym) → Counts k (is_break t.kind) (counted b n t.kind) room → track room ts k ≡ Goes left next → Counts next (break_from b (t ∷ ts)) (count_from b n (t ∷ ts)) left)
    → and_then x (λ r w. track r ts w) ≡ Goes left next → Counts next (break_from b (t ∷ ts)) (count_from b n (t ∷ ts)) left
then-counts (Goes r w) t ts k b n room left next e i f g = f r w (turn-counts k t.kind b n room r w i e) g
then-counts (Halts r) t ts k b n room left next e i f g = absurd (cc g)

pub track-counts : (ts : List Token) (k : List Sym) (b : Bool) (n room left : ℕ) (next : List Sym) → Counts k b n room → track room ts k ≡ Goes left next
    → Counts next (break_from b ts) (count_from b n ts) left
track-counts [] k b n room left next i e =
    let p : room ≡ left = cc e in
    let q : k ≡ next = cc e in
    moved-counts [] k b n room left next p q i
track-counts (t ∷ ts) k b n room left next i e =
    then-counts (turn room k t.kind) t ts k b n room left next refl i (λ r j c g. track-counts ts j (is_break t.kind) (counted b n t.kind) r left next c g) e

pub file-starts : (room : ℕ) → Counts (syms.File ∷ []) false 0 room
file-starts room = outside-counts (syms.File ∷ []) false 0 room (refl, refl, tt) refl (λ e. absurd (cc e)) (λ e. refl) (omega arith)

-- Brackets.
same_opening : (t : Kind) → opens t ≡ is_opening t
same_opening kinds.OpenRound = refl
same_opening kinds.OpenSquare = refl
same_opening kinds.OpenCurly = refl
same_opening _ = refl

begins-opening : (t : Kind) → begins_statement t ≡ true → is_opening t ≡ false
begins-opening kinds.OpenRound h = absurd (cc h)
begins-opening kinds.OpenSquare h = absurd (cc h)
begins-opening kinds.OpenCurly h = absurd (cc h)
begins-opening _ h = refl

curly-opening : (t : Kind) → is_curly t ≡ true → is_opening t ≡ true
curly-opening kinds.OpenCurly h = refl
curly-opening _ h = absurd (cc h)

pub owes-nothing : (s : Sym) → may_end s ≡ true → owes s ≡ false
owes-nothing syms.File h = refl
owes-nothing syms.OtherFields h = refl
owes-nothing syms.BoundsPart h = refl
owes-nothing syms.Else h = refl
owes-nothing syms.EndPart h = refl
owes-nothing syms.LabelPart h = refl
owes-nothing syms.Result h = refl
owes-nothing syms.Via h = refl
owes-nothing syms.Rest h = refl
owes-nothing (syms.Links op) h = refl
owes-nothing syms.End h = refl
owes-nothing syms.PathAtom h = refl
owes-nothing syms.ThisAtom h = refl
owes-nothing _ h = absurd (cc h)

second-false : (a b : Bool) → a ≡ true → (a && b) ≡ false → b ≡ false
second-false true b h e = e
second-false false b h e = absurd (cc h)

below : (n : ℕ) → nat_le 48 n ≡ false → n < 48
below n h = grind (arith, nat_tests)

pub move-opens : (s : Sym) (t : Kind) (w : Move) (k : List Sym) (room : ℕ) (x : Turn) (left : ℕ) (next : List Sym) → fits s t w ≡ true → is_opening t ≡ true
    → (x ≡ Goes left next → open_count k < 48) → turned room w (s ∷ k) k t x ≡ Goes left next → open_count (s ∷ k) < 48
move-opens s t (Take xs) k room x left next h o g e =
    let p = goes-if (opens t && nat_le 48 (open_count (s ∷ k))) L4 room (xs ++ k) left next e in
    below (open_count (s ∷ k)) (second-false (opens t) (nat_le 48 (open_count (s ∷ k))) (same_opening t ∙ o) p.test)
move-opens s t (Begin xs) k room x left next h o g e =
    let c1 = both (is_fresh s) (begins_statement t && all_calm xs) h in
    let c2 = both (begins_statement t) (all_calm xs) c1.1 in
    absurd (apart (is_opening t) o (begins-opening t c2.0))
move-opens s t (Enter xs) k room x left next h o g e =
    let p = goes-if (nat_le 48 (open_count (s ∷ k))) L4 4096 (xs ++ k) left next e in
    below (open_count (s ∷ k)) p.test
move-opens s t Pass k room x left next h o g e = subst (λ b. one_more_if b (open_count k) < 48) (sym (owes-nothing s h)) (g e)
move-opens s t (Stop r) k room x left next h o g e = absurd (cc e)

pub turn-opens : (k : List Sym) (t : Kind) (room left : ℕ) (next : List Sym) → is_opening t ≡ true → turn room k t ≡ Goes left next → open_count k < 48
turn-opens [] t room left next o e = absurd (cc e)
turn-opens (s ∷ k) t room left next o e = move-opens s t (move s t) k room (turn room k t) left next (all_fit s t) o (λ g. turn-opens k t room left next o g) e

-- No stack owes more than 48 brackets.
few-turn : (k : List Sym) (t : Kind) (room left : ℕ) (next : List Sym) → open_count k ≤ 48 → turn room k t ≡ Goes left next → open_count next ≤ 48
few-turn k t room left next f e = by-kind (is_opening t) refl
  where
    by-kind : (b : Bool) → is_opening t ≡ b → open_count next ≤ 48
    by-kind true o = let l = turn-opens k t room left next o e in let c = feed-counts k t next (turn-feed k room t left next e) in let one : one_if (is_opening t) ≡ 1 = ap one_if o in omega (arith, l, c, one)
    by-kind false o = let c = feed-counts k t next (turn-feed k room t left next e) in let none : one_if (is_opening t) ≡ 0 = ap one_if o in omega (arith, f, c, none)

then-few : (x : Turn) (t : Token) (ts : List Token) (k : List Sym) (room left : ℕ) (next : List Sym) → turn room k t.kind ≡ x → open_count k ≤ 48
    → ((room : ℕ) (k : List Sym) → open_count k ≤ 48 → track room ts k ≡ Goes left next → open_count next ≤ 48)
    → and_then x (λ r w. track r ts w) ≡ Goes left next → open_count next ≤ 48
then-few (Goes r w) t ts k room left next e f h g = h r w (few-turn k t.kind room r w f e) g
then-few (Halts r) t ts k room left next e f h g = absurd (cc g)

pub track-few : (ts : List Token) (k : List Sym) (room left : ℕ) (next : List Sym) → open_count k ≤ 48 → track room ts k ≡ Goes left next → open_count next ≤ 48
track-few [] k room left next f e = let q : k ≡ next = cc e in subst (λ j. open_count j ≤ 48) q f
track-few (t ∷ ts) k room left next f e = then-few (turn room k t.kind) t ts k room left next refl f (λ r j c g. track-few ts j r left next c g) e

-- Why a token is refused.
pub data Halting (k : List Sym) (t : Kind) (b : Bool) (n : ℕ) (r : Rule) : Type 0 where
  Wrong : is_wrong r ≡ true → feed k t ≡ None → Halting k t b n r
  Deep : r ≡ L4 → (wanted : List Sym) → feed k t ≡ Some wanted → is_opening t ≡ true → 48 ≤ open_count k → Halting k t b n r
  Long : r ≡ L5 → (wanted : List Sym) → feed k t ≡ Some wanted → b ≡ true → begins_statement t ≡ true → n ≡ 4096 → Halting k t b n r

at_least : (n : ℕ) → nat_le 48 n ≡ true → 48 ≤ n
at_least n h = grind (arith, nat_tests)

is-zero : (n : ℕ) → nat_eq n 0 ≡ true → n ≡ 0
is-zero n h = grind (arith, nat_tests)

halting-below : (s : Sym) (k : List Sym) (t : Kind) (b : Bool) (n : ℕ) (r : Rule) → feed (s ∷ k) t ≡ feed k t → owes s ≡ false → Halting k t b n r → Halting (s ∷ k) t b n r
halting-below s k t b n r e o (Wrong w f) = Wrong w (e ∙ f)
halting-below s k t b n r e o (Deep q wanted f p d) = Deep q wanted (e ∙ f) p (subst (λ b. 48 ≤ one_more_if b (open_count k)) (sym o) d)
halting-below s k t b n r e o (Long q wanted f bt st m) = Long q wanted (e ∙ f) bt st m

move-halts : (s : Sym) (t : Kind) (w : Move) (k : List Sym) (b : Bool) (n room : ℕ) (x : Turn) (r : Rule) → feed (s ∷ k) t ≡ fed w k (feed k t) → fits s t w ≡ true → Stops w
    → Counts (s ∷ k) b n room → (k ≡ [] → (x ≡ Halts S5) × (feed k t ≡ None)) → (Counts k b n room → x ≡ Halts r → Halting k t b n r)
    → turned room w (s ∷ k) k t x ≡ Halts r → Halting (s ∷ k) t b n r
move-halts s t (Take xs) k b n room x r fe h st i f g e =
    let p = halts-if (opens t && nat_le 48 (open_count (s ∷ k))) L4 r room (xs ++ k) e in
    let c = both (opens t) (nat_le 48 (open_count (s ∷ k))) p.0 in
    Deep p.1 (xs ++ k) fe (sym (same_opening t) ∙ c.0) (at_least (open_count (s ∷ k)) c.1)
move-halts s t (Begin xs) k b n room x r fe h st i f g e =
    let p = halts-if (nat_eq room 0) L5 r (room - 1) (xs ++ k) e in
    let c1 = both (is_fresh s) (begins_statement t && all_calm xs) h in
    let c2 = both (begins_statement t) (all_calm xs) c1.1 in
    let whole : room + n ≡ 4096 = i.inside (body-two s (phase k) (fresh-body s c1.0)) in
    let none : room ≡ 0 = is-zero room p.0 in
    Long p.1 (xs ++ k) fe (is-behind s k b n room c1.0 i) c2.0 (omega (arith, whole, none))
move-halts s t (Enter xs) k b n room x r fe h st i f g e =
    let p = halts-if (nat_le 48 (open_count (s ∷ k))) L4 r 4096 (xs ++ k) e in
    let c1 = both (is_curly t) (is_head s && is_vars xs) h in
    Deep p.1 (xs ++ k) fe (curly-opening t c1.0) (at_least (open_count (s ∷ k)) p.0)
move-halts s t Pass k b n room x r fe h st i f g e = on-pass (pass-on s k b n room h i)
  where
    on-pass : (k ≡ []) ⊎ Counts k b n room → Halting (s ∷ k) t b n r
    on-pass (inl z) = let q : Halts S5 ≡ Halts r = sym (f z).0 ∙ e in let same : S5 ≡ r = cc q in Wrong (ap is_wrong (sym same)) (fe ∙ (f z).1)
    on-pass (inr c) = halting-below s k t b n r fe (owes-nothing s h) (g c e)
move-halts s t (Stop q) k b n room x r fe h st i f g e = let same : q ≡ r = cc e in Wrong (ap is_wrong (sym same) ∙ st) fe

pub turn-halts : (k : List Sym) (t : Kind) (b : Bool) (n room : ℕ) (r : Rule) → Counts k b n room → turn room k t ≡ Halts r → Halting k t b n r
turn-halts [] t b n room r i e = let same : S5 ≡ r = cc e in Wrong (ap is_wrong (sym same)) refl
turn-halts (s ∷ k) t b n room r i e =
    move-halts s t (move s t) k b n room (turn room k t) r refl (all_fit s t) (stops s t) i (λ z. (ap (λ j. turn room j t) z, ap (λ j. feed j t) z)) (λ c g. turn-halts k t b n room r c g) e
