-- What the run with limits says of a list of tokens is true: accepted, it is a file within the limits, and refused, it
-- is so where and for what reason the run says.
use Rattle.std.proofs.Common.{◌≡◌, ◌∙◌, ◌+◌, ◌≤◌, ◌<◌, ap, sym, subst, ℕ, Bool, true, false, None, Some, List, [], ◌∷◌, ◌++◌, refl, if◌then◌else◌, arith}
use Rattle.wf_text.specs.declared.rules.Rule.{Rule}
use Rattle.wf_text.specs.declared.rules.Rule.TheVariants.{S5, S6}
use Rattle.wf_parse_grammar.specs.declared.tokens.Token.{Token}
use Rattle.wf_parse_grammar.specs.declared.symbols.Sym.{Sym}
use Rattle.wf_parse_grammar.specs.declared.symbols.Sym.TheVariants as syms
use Rattle.wf_parse_grammar.specs.Machine as m
use Rattle.wf_parse_grammar.specs.Machine.{may_end, open_count}
use Rattle.wf_parse_grammar.specs.Files.{IsLive}
use Rattle.wf_parse_grammar.specs.Brackets.{opened, closed}
use Rattle.wf_parse_grammar.specs.Statements.{ends_in_break, begun}
use Rattle.wf_parse_grammar.specs.Feeding.{feed, feeds, go_on}
use Rattle.wf_parse_grammar.specs.Completions.{completions}
use Rattle.wf_parse_grammar.specs.Refusals.{IsShallow, IsShort, IsWithin, Reason, IsRefused}
use Rattle.wf_parse_grammar.proofs.Live.{live}
use Rattle.wf_parse_grammar.proofs.StopRules.{is_wrong}
use Rattle.wf_parse_grammar.proofs.BracketLaws.{feeds-counts}
use Rattle.wf_parse_grammar.proofs.Refusal.{file-words, dead-token, dead-end, feeds-append}
use Rattle.wf_parse_grammar.proofs.Halting.{track-counts, file-starts, turn-opens, track-few, Halting, Wrong, Deep, Long, turn-halts}
use Rattle.wf_parse_grammar.proofs.MixLaws.{turn-mix, front-mixes}
use Rattle.wf_parse_grammar.proofs.Mixing.{front-known}
use Rattle.wf_parse_grammar.proofs.Tracking.{Turn, Goes, Halts, turn, and_then, track, StopsAt, Through, Halted, Ends, tracked, track-feeds, partly}

-- What is read is within the limits.
first-goes : (x : Turn) (ts : List Token) (left : ℕ) (wanted : List Sym) → and_then x (λ r w. track r ts w) ≡ Goes left wanted → (room : ℕ) × (next : List Sym) × (x ≡ Goes room next)
first-goes (Goes room next) ts left wanted e = (room, next, refl)
first-goes (Halts r) ts left wanted e = absurd (cc e)

few-open : (front : List Token) (wanted : List Sym) → feeds front (syms.File ∷ []) ≡ Some wanted → open_count wanted + closed front ≡ opened front
few-open front wanted e = let h : open_count wanted + closed front ≡ 0 + opened front = feeds-counts front (syms.File ∷ []) wanted e in omega (arith, h)

shallow : (room : ℕ) (tokens : List Token) (left : ℕ) (wanted : List Sym) → track room tokens (syms.File ∷ []) ≡ Goes left wanted → IsShallow tokens
shallow room tokens left wanted e = λ front t back parts o.
    let p = partly front (t ∷ back) room (syms.File ∷ []) left wanted (ap (λ ts. track room ts (syms.File ∷ [])) (sym parts) ∙ e) in
    let g = first-goes (turn p.room' p.between t.kind) back left wanted p.second in
    let few : open_count p.between < 48 = turn-opens p.between t.kind p.room' g.0 g.1 o g.2 in
    let count : open_count p.between + closed front ≡ opened front = few-open front p.between (track-feeds front room (syms.File ∷ []) p.room' p.between p.first) in
    omega (arith, few, count)

short : (room : ℕ) (tokens : List Token) (left : ℕ) (wanted : List Sym) → track room tokens (syms.File ∷ []) ≡ Goes left wanted → IsShort tokens
short room tokens left wanted e = λ front back parts.
    let p = partly front back room (syms.File ∷ []) left wanted (ap (λ ts. track room ts (syms.File ∷ [])) (sym parts) ∙ e) in
    (track-counts front (syms.File ∷ []) false 0 room p.room' p.between (file-starts room) p.first).most

pub within : (room : ℕ) (tokens : List Token) (left : ℕ) (wanted : List Sym) → track room tokens (syms.File ∷ []) ≡ Goes left wanted → IsWithin tokens
within room tokens left wanted e = record { shallow = shallow room tokens left wanted e; short = short room tokens left wanted e }

-- What is read begins a file.
front-live : (front : List Token) (wanted : List Sym) → feeds front (syms.File ∷ []) ≡ Some wanted → IsLive front
front-live front wanted e = (completions wanted [], file-words (front ++ completions wanted []) (live front (syms.File ∷ []) wanted e []))

longer-live : (front : List Token) (t : Token) (wanted next : List Sym) → feeds front (syms.File ∷ []) ≡ Some wanted → feed wanted t.kind ≡ Some next → IsLive (front ++ t ∷ [])
longer-live front t wanted next e f = front-live (front ++ t ∷ []) next (feeds-append front (t ∷ []) (syms.File ∷ []) wanted e ∙ ap (λ o. go_on o (λ k. feeds [] k)) f)

-- Why the run stops.
ends-rule : (k : List Sym) (r : Rule) (n : ℕ) → m.ends k ≡ m.Refused r n → r ≡ S5
ends-rule [] r n e = absurd (cc e)
ends-rule (s ∷ k) r n e = ends-on (may_end s) k r n (ends-rule k) e
  where
    ends-on : (b : Bool) (k : List Sym) (r : Rule) (n : ℕ) → ((r : Rule) (n : ℕ) → m.ends k ≡ m.Refused r n → r ≡ S5) → (if b then m.ends k else m.Refused S5 0) ≡ m.Refused r n → r ≡ S5
    ends-on true k r n f e = f r n e
    ends-on false k r n f e = cc e

end-reason : (front : List Token) (wanted : List Sym) (r : Rule) → feeds front (syms.File ∷ []) ≡ Some wanted → m.ends wanted ≡ m.Refused r 0 → Reason r front []
end-reason front wanted r e s =
    let P : Rule → Type 0 = λ q. Reason q front [] in
    subst P (sym (ends-rule wanted r 0 s)) (dead-end front wanted r 0 e s, λ x. x)

wrong-reason : (front : List Token) (t : Token) (back : List Token) (wanted : List Sym) (room : ℕ) (r : Rule) → feeds front (syms.File ∷ []) ≡ Some wanted
    → turn room wanted t.kind ≡ Halts r → is_wrong r ≡ true → feed wanted t.kind ≡ None → Reason r front (t ∷ back)
wrong-reason front t back wanted room S5 e s i f =
    (dead-token front t wanted e f, λ x. let q : S5 ≡ S6 = front-mixes front wanted e x.1 room t.kind S5 x.0 refl s in cc q)
wrong-reason front t back wanted room S6 e s i f = (dead-token front t wanted e f, turn-mix wanted t.kind room front (front-known front wanted e) s)
wrong-reason front t back wanted room _ e s i f = absurd (cc i)

halt-reason : (front : List Token) (t : Token) (back : List Token) (wanted : List Sym) (room : ℕ) (r : Rule) → feeds front (syms.File ∷ []) ≡ Some wanted → open_count wanted ≤ 48
    → turn room wanted t.kind ≡ Halts r → Halting wanted t.kind (ends_in_break front) (begun front) r → Reason r front (t ∷ back)
halt-reason front t back wanted room r e few s (Wrong i f) = wrong-reason front t back wanted room r e s i f
halt-reason front t back wanted room r e few s (Deep q next f o d) =
    let P : Rule → Type 0 = λ p. Reason p front (t ∷ back) in
    let count : open_count wanted + closed front ≡ opened front = few-open front wanted e in
    let depth : opened front ≡ 48 + closed front = omega (arith, few, d, count) in
    subst P (sym q) (longer-live front t wanted next e f, o, depth)
halt-reason front t back wanted room r e few s (Long q next f b i n) =
    let P : Rule → Type 0 = λ p. Reason p front (t ∷ back) in
    subst P (sym q) (longer-live front t wanted next e f, b, i, n)

stop-reason : (front back : List Token) (wanted : List Sym) (room left : ℕ) (r : Rule) → track room front (syms.File ∷ []) ≡ Goes left wanted → StopsAt r left wanted back → Reason r front back
stop-reason front [] wanted room left r e s = end-reason front wanted r (track-feeds front room (syms.File ∷ []) left wanted e) s
stop-reason front (t ∷ back) wanted room left r e s =
    halt-reason front t back wanted left r (track-feeds front room (syms.File ∷ []) left wanted e) (track-few front (syms.File ∷ []) room left wanted (omega arith) e) s
    (turn-halts wanted t.kind (ends_in_break front) (begun front) left r (track-counts front (syms.File ∷ []) false 0 room left wanted (file-starts room) e) s)

refused-at : (room : ℕ) (tokens : List Token) (r : Rule) (left : ℕ) → Halted room tokens (syms.File ∷ []) r left → IsRefused tokens r left
refused-at room tokens r left h = record {
  front = h.front;
  back = h.back;
  parts = h.parts;
  place = h.place;
  live = front-live h.front h.wanted (track-feeds h.front room (syms.File ∷ []) h.room' h.wanted h.reads);
  within = within room h.front h.room' h.wanted h.reads;
  reason = stop-reason h.front h.back h.wanted room h.room' r h.reads h.stops;
}

pub run-refused : (room : ℕ) (tokens : List Token) (r : Rule) (left : ℕ) → m.run true room tokens (syms.File ∷ []) ≡ m.Refused r left → IsRefused tokens r left
run-refused room tokens r left e =
    let P : m.Outcome → Type 0 = λ o. Ends room tokens (syms.File ∷ []) o in
    refused-at room tokens r left (subst P e (tracked tokens room (syms.File ∷ [])))

pub run-accepted : (room : ℕ) (tokens : List Token) → m.run true room tokens (syms.File ∷ []) ≡ m.Accepted → IsWithin tokens
run-accepted room tokens e =
    let P : m.Outcome → Type 0 = λ o. Ends room tokens (syms.File ∷ []) o in
    let h : Through room tokens (syms.File ∷ []) = subst P e (tracked tokens room (syms.File ∷ [])) in
    within room tokens h.left h.wanted h.reads
