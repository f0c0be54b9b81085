-- The run with limits, token by token: what is wanted and how many statements may still begin, or the rule that stops it.
use Rattle.std.proofs.Common.{◌≡◌, ◌∙◌, ◌-◌, ap, sym, subst, ℕ, suc, Bool, true, false, ◌&&◌, Some, List, [], ◌∷◌, ◌++◌, length, refl, nat_eq, nat_le, if◌then◌else◌}
use Rattle.wf_text.specs.declared.rules.Rule.{Rule}
use Rattle.wf_text.specs.declared.rules.Rule.TheVariants.{S5, L4, L5}
use Rattle.wf_parse_grammar.specs.declared.tokens.Kind.{Kind}
use Rattle.wf_parse_grammar.specs.declared.tokens.Token.{Token}
use Rattle.wf_parse_grammar.specs.declared.symbols.Sym.{Sym}
use Rattle.wf_parse_grammar.specs.Machine.{Move, Take, Begin, Enter, Pass, Stop, move, may_end, opens, open_count, Outcome, Accepted, Refused, run, step, after, unless, ends}
use Rattle.wf_parse_grammar.specs.Feeding.{fed, feed, feeds, go_on}

pub data Turn : Type 0 where
  Goes : (room : ℕ) → (wanted : List Sym) → Turn
  Halts : (rule : Rule) → Turn

abbrev pub halts_if : Bool → Rule → Turn → Turn
halts_if true r go = Halts r
halts_if false r go = go

abbrev pub turned : (room : ℕ) → Move → (whole below : List Sym) → Kind → (passed : Turn) → Turn
turned room (Take xs) whole below t passed = halts_if (opens t && nat_le 48 (open_count whole)) L4 (Goes room (xs ++ below))
turned room (Begin xs) whole below t passed = halts_if (nat_eq room 0) L5 (Goes (room - 1) (xs ++ below))
turned room (Enter xs) whole below t passed = halts_if (nat_le 48 (open_count whole)) L4 (Goes 4096 (xs ++ below))
turned room Pass whole below t passed = passed
turned room (Stop r) whole below t passed = Halts r

abbrev pub turn : (room : ℕ) → List Sym → Kind → Turn
turn room [] t = Halts S5
turn room (s ∷ k) t = turned room (move s t) (s ∷ k) k t (turn room k t)

abbrev pub and_then : Turn → (ℕ → List Sym → Turn) → Turn
and_then (Goes room wanted) f = f room wanted
and_then (Halts r) f = Halts r

abbrev pub track : (room : ℕ) → List Token → List Sym → Turn
track room [] k = Goes room k
track room (t ∷ ts) k = and_then (turn room k t.kind) (λ left wanted. track left ts wanted)

-- A step is its turn.
abbrev pub outcome_of : Turn → (left : ℕ) → (ℕ → List Sym → Outcome) → Outcome
outcome_of (Goes room wanted) left next = next room wanted
outcome_of (Halts r) left next = Refused r left

of-unless : (b : Bool) (r : Rule) (left : ℕ) (next : ℕ → List Sym → Outcome) (room : ℕ) (wanted : List Sym)
    → unless b r left (next room wanted) ≡ outcome_of (halts_if b r (Goes room wanted)) left next
of-unless true r left next room wanted = refl
of-unless false r left next room wanted = refl

of-after : (w : Move) (room : ℕ) (whole below : List Sym) (t : Kind) (left : ℕ) (next : ℕ → List Sym → Outcome) (passed : Outcome) (turn' : Turn)
    → passed ≡ outcome_of turn' left next → after true room w whole below t left next passed ≡ outcome_of (turned room w whole below t turn') left next
of-after (Take xs) room whole below t left next passed turn' h = of-unless (opens t && nat_le 48 (open_count whole)) L4 left next room (xs ++ below)
of-after (Begin xs) room whole below t left next passed turn' h = of-unless (nat_eq room 0) L5 left next (room - 1) (xs ++ below)
of-after (Enter xs) room whole below t left next passed turn' h = of-unless (nat_le 48 (open_count whole)) L4 left next 4096 (xs ++ below)
of-after Pass room whole below t left next passed turn' h = h
of-after (Stop r) room whole below t left next passed turn' h = refl

of-step : (k : List Sym) (room : ℕ) (t : Kind) (left : ℕ) (next : ℕ → List Sym → Outcome) → step true room k t left next ≡ outcome_of (turn room k t) left next
of-step [] room t left next = refl
of-step (s ∷ k) room t left next = of-after (move s t) room (s ∷ k) k t left next _ (turn room k t) (of-step k room t left next)

-- How a run ends.
abbrev pub StopsAt : Rule → (room : ℕ) → List Sym → (back : List Token) → Type 0
StopsAt r room wanted [] = ends wanted ≡ Refused r 0
StopsAt r room wanted (t ∷ back) = turn room wanted t.kind ≡ Halts r

pub record Through (room : ℕ) (tokens : List Token) (k : List Sym) : Type 0 where
  pub left : ℕ
  pub wanted : List Sym
  pub reads : track room tokens k ≡ Goes left wanted
  pub over : ends wanted ≡ Accepted

pub record Halted (room : ℕ) (tokens : List Token) (k : List Sym) (rule : Rule) (left : ℕ) : Type 0 where
  pub front : List Token
  pub back : List Token
  pub room' : ℕ
  pub wanted : List Sym
  pub parts : tokens ≡ front ++ back
  pub place : left ≡ length back
  pub reads : track room front k ≡ Goes room' wanted
  pub stops : StopsAt rule room' wanted back

abbrev pub Ends : (room : ℕ) → List Token → List Sym → Outcome → Type 0
Ends room tokens k Accepted = Through room tokens k
Ends room tokens k (Refused r left) = Halted room tokens k r left

ends-zero : (k : List Sym) (r : Rule) (n : ℕ) → ends k ≡ Refused r n → n ≡ 0
ends-zero [] r n e = absurd (cc e)
ends-zero (s ∷ k) r n e = ends-on (may_end s) k r n (ends-zero k) e
  where
    ends-on : (b : Bool) (k : List Sym) (r : Rule) (n : ℕ) → ((r : Rule) (n : ℕ) → ends k ≡ Refused r n → n ≡ 0) → (if b then ends k else Refused S5 0) ≡ Refused r n → n ≡ 0
    ends-on true k r n f e = f r n e
    ends-on false k r n f e = cc e

ended : (room : ℕ) (k : List Sym) (o : Outcome) → ends k ≡ o → Ends room [] k o
ended room k Accepted e = record { left = room; wanted = k; reads = refl; over = e }
ended room k (Refused r n) e =
    let zero : n ≡ 0 = ends-zero k r n e in
    record { front = []; back = []; room' = room; wanted = k; parts = refl; place = zero; reads = refl; stops = e ∙ ap (Refused r) zero }

more : (room left : ℕ) (t : Token) (ts : List Token) (k wanted : List Sym) (o : Outcome) → turn room k t.kind ≡ Goes left wanted → Ends left ts wanted o → Ends room (t ∷ ts) k o
more room left t ts k wanted Accepted e h = record { left = h.left; wanted = h.wanted; reads = ap (λ x. and_then x (λ r w. track r ts w)) e ∙ h.reads; over = h.over }
more room left t ts k wanted (Refused r n) e h = record {
  front = t ∷ h.front;
  back = h.back;
  room' = h.room';
  wanted = h.wanted;
  parts = ap (λ us. t ∷ us) h.parts;
  place = h.place;
  reads = ap (λ x. and_then x (λ r w. track r h.front w)) e ∙ h.reads;
  stops = h.stops;
}

turned-on : (x : Turn) (room : ℕ) (t : Token) (ts : List Token) (k : List Sym) → turn room k t.kind ≡ x
    → ((left : ℕ) (wanted : List Sym) → Ends left ts wanted (run true left ts wanted))
    → Ends room (t ∷ ts) k (outcome_of x (suc (length ts)) (λ left wanted. run true left ts wanted))
turned-on (Goes left wanted) room t ts k e h = more room left t ts k wanted (run true left ts wanted) e (h left wanted)
turned-on (Halts r) room t ts k e h = record { front = []; back = t ∷ ts; room' = room; wanted = k; parts = refl; place = refl; reads = refl; stops = e }

pub tracked : (tokens : List Token) (room : ℕ) (k : List Sym) → Ends room tokens k (run true room tokens k)
tracked [] room k = ended room k (ends k) refl
tracked (t ∷ ts) room k =
    let P : Outcome → Type 0 = λ o. Ends room (t ∷ ts) k o in
    subst P (sym (of-step k room t.kind (suc (length ts)) (λ left wanted. run true left ts wanted)))
    (turned-on (turn room k t.kind) room t ts k refl (λ left wanted. tracked ts left wanted))

-- What is read is read without limits too.
unless-goes : (b : Bool) (r : Rule) (room left : ℕ) (some wanted : List Sym) → halts_if b r (Goes room some) ≡ Goes left wanted → Some some ≡ Some wanted
unless-goes true r room left some wanted e = absurd (cc e)
unless-goes false r room left some wanted e = cc e

turn-fed : (w : Move) (room : ℕ) (whole below : List Sym) (t : Kind) (x : Turn) (o : _) (left : ℕ) (wanted : List Sym)
    → ((left : ℕ) (wanted : List Sym) → x ≡ Goes left wanted → o ≡ Some wanted)
    → turned room w whole below t x ≡ Goes left wanted → fed w below o ≡ Some wanted
turn-fed (Take xs) room whole below t x o left wanted h e = unless-goes (opens t && nat_le 48 (open_count whole)) L4 room left (xs ++ below) wanted e
turn-fed (Begin xs) room whole below t x o left wanted h e = unless-goes (nat_eq room 0) L5 (room - 1) left (xs ++ below) wanted e
turn-fed (Enter xs) room whole below t x o left wanted h e = unless-goes (nat_le 48 (open_count whole)) L4 4096 left (xs ++ below) wanted e
turn-fed Pass room whole below t x o left wanted h e = h left wanted e
turn-fed (Stop r) room whole below t x o left wanted h e = absurd (cc e)

pub turn-feed : (k : List Sym) (room : ℕ) (t : Kind) (left : ℕ) (wanted : List Sym) → turn room k t ≡ Goes left wanted → feed k t ≡ Some wanted
turn-feed [] room t left wanted e = absurd (cc e)
turn-feed (s ∷ k) room t left wanted e = turn-fed (move s t) room (s ∷ k) k t (turn room k t) (feed k t) left wanted (λ l w h. turn-feed k room t l w h) e

then-feeds : (x : Turn) (room : ℕ) (t : Token) (ts : List Token) (k : List Sym) (left : ℕ) (wanted : List Sym) → turn room k t.kind ≡ x
    → ((room : ℕ) (k : List Sym) → track room ts k ≡ Goes left wanted → feeds ts k ≡ Some wanted)
    → and_then x (λ r w. track r ts w) ≡ Goes left wanted → feeds (t ∷ ts) k ≡ Some wanted
then-feeds (Goes r w) room t ts k left wanted e h g = ap (λ o. go_on o (λ j. feeds ts j)) (turn-feed k room t.kind r w e) ∙ h r w g
then-feeds (Halts r) room t ts k left wanted e h g = absurd (cc g)

pub track-feeds : (ts : List Token) (room : ℕ) (k : List Sym) (left : ℕ) (wanted : List Sym) → track room ts k ≡ Goes left wanted → feeds ts k ≡ Some wanted
track-feeds [] room k left wanted e = let h : k ≡ wanted = cc e in ap Some h
track-feeds (t ∷ ts) room k left wanted e = then-feeds (turn room k t.kind) room t ts k left wanted refl (λ r j h. track-feeds ts r j left wanted h) e

-- A part before what is read is read.
pub record Partly (room : ℕ) (front back : List Token) (k : List Sym) (left : ℕ) (wanted : List Sym) : Type 0 where
  pub room' : ℕ
  pub between : List Sym
  pub first : track room front k ≡ Goes room' between
  pub second : track room' back between ≡ Goes left wanted

then-partly : (x : Turn) (room : ℕ) (t : Token) (front back : List Token) (k : List Sym) (left : ℕ) (wanted : List Sym) → turn room k t.kind ≡ x
    → ((room : ℕ) (k : List Sym) → track room (front ++ back) k ≡ Goes left wanted → Partly room front back k left wanted)
    → and_then x (λ r w. track r (front ++ back) w) ≡ Goes left wanted → Partly room (t ∷ front) back k left wanted
then-partly (Goes r w) room t front back k left wanted e h g =
    let p : Partly r front back w left wanted = h r w g in
    record { room' = p.room'; between = p.between; first = ap (λ x. and_then x (λ r w. track r front w)) e ∙ p.first; second = p.second }
then-partly (Halts r) room t front back k left wanted e h g = absurd (cc g)

pub partly : (front back : List Token) (room : ℕ) (k : List Sym) (left : ℕ) (wanted : List Sym) → track room (front ++ back) k ≡ Goes left wanted → Partly room front back k left wanted
partly [] back room k left wanted e = record { room' = room; between = k; first = refl; second = e }
partly (t ∷ front) back room k left wanted e = then-partly (turn room k t.kind) room t front back k left wanted refl (λ r j h. partly front back r j left wanted h) e
