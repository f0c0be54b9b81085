-- What one put does to a pen.
use Rattle.std.proofs.Common.{◌≡◌, ℕ, add-one, ◌+◌, ◌-◌, ◌<◌, ◌≤◌, ◌++◌, List, [], ◌∷◌, length, length-append, take, drop, Bool, true, false, Option, None, Some, ◌^◌, refl, sym, ◌∙◌, ap, subst, arith, max, inl, inr, Result, Ok, Err}
use Rattle.std.specs.Io.KnownBytes.{Appends}
use Rattle.std.proofs.lemmas.Bool.{cases_order}
use Rattle.wf_outside.specs.declared.sinks.SinkFault.{SinkFault}
use Rattle.wf_outside.specs.Sinks.{longest_with, CountsPut, FitsRoom}
use Rattle.pens.specs.Pens.{PenState, KeepsLongest, EndsIn, Flows, WroteFrom, Wrote, Prints, failed_at, pen_state, cut}
use Rattle.pens.specs.PenLaws.{written_nothing, longest_same, writes_joined}
use Rattle.std.proofs.lemmas.List.{take-append-drop}
use Rattle.std.proofs.Math.ListN.{set}
use Rattle.std.proofs.Math.Seq.{take-suc-set}

append_nil : (xs : List ℕ) → xs ++ [] ≡ xs
append_nil [] = refl
append_nil (x ∷ xs) = ap (λ ys. x ∷ ys) (append_nil xs)

longest_put : (before now : Option ℕ) (count : ℕ) → count ≤ 4096 → now ≡ longest_with before count → KeepsLongest before now
longest_put before now count small is most was = (max most count, is ∙ ap (λ o. longest_with o count) was, omega arith, omega (arith, small))

room_failed : (before now : Option ℕ) (fault : SinkFault) (count : ℕ) → FitsRoom before now (Err fault) count → (room : ℕ) → before ≡ Some room → room < count
room_failed None now fault count fits room is = absurd (cc (is))
room_failed (Some r) now fault count fits room is =
    let e : r ≡ room = cc (is) in
    elim (cases_order room count) [
      | inl q ↦ (let h = (fits (omega (arith, e, q))).0 in absurd (cc (h)))
      | inr o ↦ elim o [ inl less ↦ less | inr more ↦ (let h = (fits (omega (arith, e, more))).0 in absurd (cc (h))) ]
    ]

-- a part of the buffer was put
pub put_part : (old new : PenState) (fault : SinkFault) → old.failed ≡ false → new.failed ≡ true → length old.waiting ≤ 4096 → Appends old.written new.written (take fault.gone old.waiting) → new.sent ≡ cut (old.sent + length (take fault.gone old.waiting)) → old.faults < new.faults → FitsRoom old.room new.room (Err fault) (length old.waiting) → new.longest ≡ longest_with old.longest (length old.waiting) → Wrote old new []
put_part old new fault fine_before failed small written sent faults room longest =
    let flows : Flows old new [] = record {
      taken = take fault.gone old.waiting;
      left = drop fault.gone old.waiting;
      flow = take-append-drop fault.gone old.waiting ∙ sym (append_nil old.waiting);
      written = written;
      sent = sent;
      longest = longest_put old.longest new.longest (length old.waiting) small longest;
      ending = subst (λ (g : Bool). EndsIn g old new (take fault.gone old.waiting) (drop fault.gone old.waiting) (length old.waiting + 0)) (sym failed) (faults, λ r is. omega (arith, room_failed old.room new.room fault (length old.waiting) room r is));
    } in
    subst (λ (f : Bool). WroteFrom f old new []) (sym fine_before) flows

pub dropped : (s : PenState) (bytes : List ℕ) → s.failed ≡ true → Wrote s s bytes
dropped s bytes failed = subst (λ (f : Bool). WroteFrom f s s bytes) (sym failed) refl

-- a byte waits in the buffer
pub byte_waits : (written : Option (List ℕ)) (room longest : Option ℕ) (faults : ℕ) (buffer : List ℕ) (filled sent : ℕ) (failed : Bool) (byte : ℕ) → sent < 2 ^ 64 → failed ≡ false → filled < length buffer → Wrote (pen_state written room longest faults buffer filled sent failed) (pen_state written room longest faults (set buffer filled byte) (filled + 1) sent failed) (byte ∷ [])
byte_waits written room longest faults buffer filled sent failed byte small fine within =
    let old = pen_state written room longest faults buffer filled sent failed in
    let new = pen_state written room longest faults (set buffer filled byte) (filled + 1) sent failed in
    let more : take (filled + 1) (set buffer filled byte) ≡ take filled buffer ++ byte ∷ [] = ap (λ n. take n (set buffer filled byte)) (add-one filled) ∙ take-suc-set buffer filled byte within in
    let flows : Flows old new (byte ∷ []) = record {
      taken = [];
      left = take filled buffer ++ byte ∷ [];
      flow = refl;
      written = written_nothing written;
      sent = omega (arith, small);
      longest = longest_same longest;
      ending = subst (λ (g : Bool). EndsIn g old new [] (take filled buffer ++ byte ∷ []) (length (take filled buffer) + 1)) (sym fine) (sym more, refl, λ r is enough. is ∙ ap Some (omega arith));
    } in
    subst (λ (f : Bool). WroteFrom f old new (byte ∷ [])) (sym fine) flows

-- a piece waits in the buffer
pub piece_waits : (written : Option (List ℕ)) (room longest : Option ℕ) (faults : ℕ) (buffer after : List ℕ) (filled sent : ℕ) (failed : Bool) (piece : List ℕ) → sent < 2 ^ 64 → failed ≡ false → take (filled + length piece) after ≡ take filled buffer ++ piece → Wrote (pen_state written room longest faults buffer filled sent failed) (pen_state written room longest faults after (filled + length piece) sent failed) piece
piece_waits written room longest faults buffer after filled sent failed piece small fine more =
    let old = pen_state written room longest faults buffer filled sent failed in
    let new = pen_state written room longest faults after (filled + length piece) sent failed in
    let flows : Flows old new piece = record {
      taken = [];
      left = take filled buffer ++ piece;
      flow = refl;
      written = written_nothing written;
      sent = omega (arith, small);
      longest = longest_same longest;
      ending = subst (λ (g : Bool). EndsIn g old new [] (take filled buffer ++ piece) (length (take filled buffer) + length piece)) (sym fine) (sym more, refl, λ r is enough. is ∙ ap Some (omega arith));
    } in
    subst (λ (f : Bool). WroteFrom f old new piece) (sym fine) flows

-- What a pen has written that began empty and has put all.
pub record PrintedAll (old new : PenState) (result : Result (Unit {0}) SinkFault) (text : List ℕ) : Type 0 where
  pub bytes : Prints old.written new.written result text
  pub count : CountsPut old.faults new.faults result
  pub room : FitsRoom old.room new.room result (length text)
  pub longest : KeepsLongest old.longest new.longest

room_fits : (before now : Option ℕ) (taken text : List ℕ) → taken ≡ text → ((room : ℕ) → before ≡ Some room → length text ≤ room → now ≡ Some (room - length taken)) → FitsRoom before now (Ok tt) (length text)
room_fits None now taken text is h = tt
room_fits (Some room) now taken text is h = λ enough. (refl, h room refl enough ∙ ap (λ (zs : List ℕ). Some (room - length zs)) is)

room_fails : (before now : Option ℕ) (fault : SinkFault) (count : ℕ) → ((room : ℕ) → before ≡ Some room → room < count) → FitsRoom before now (Err fault) count
room_fails None now fault count h = tt
room_fails (Some room) now fault count h = λ enough. absurd (omega (arith, h room refl, enough))

take_front : (xs ys : List ℕ) → take (length xs) (xs ++ ys) ≡ xs
take_front [] ys = refl
take_front (x ∷ xs) ys = ap (λ zs. x ∷ zs) (take_front xs ys)

pub printed_all : (old new : PenState) (text : List ℕ) (failed : Bool) → old.failed ≡ false → old.waiting ≡ [] → old.sent ≡ 0 → new.failed ≡ failed → (failed ≡ false → new.waiting ≡ []) → Wrote old new text → PrintedAll old new (failed_at failed new.sent) text
printed_all old new text false fine empty zero same done wrote =
    let f : Flows old new text = subst (λ (g : Bool). WroteFrom g old new text) fine wrote in
    let ends : EndsIn false old new f.taken f.left (length old.waiting + length text) = subst (λ (g : Bool). EndsIn g old new f.taken f.left (length old.waiting + length text)) same f.ending in
    let nothing : f.left ≡ [] = ends.0 ∙ done refl in
    let all : f.taken ≡ text = sym (append_nil f.taken) ∙ (ap (λ zs. f.taken ++ zs) (sym nothing) ∙ (f.flow ∙ ap (λ zs. zs ++ text) empty)) in
    let none : length old.waiting ≡ 0 = ap length empty in
    record {
      bytes = subst (λ (zs : List ℕ). Appends old.written new.written zs) all f.written;
      count = ends.1;
      room = room_fits old.room new.room f.taken text all (λ r is enough. ends.2 r is (omega (arith, enough, none)));
      longest = f.longest;
    }
printed_all old new text true fine empty zero same done wrote =
    let f : Flows old new text = subst (λ (g : Bool). WroteFrom g old new text) fine wrote in
    let ends : EndsIn true old new f.taken f.left (length old.waiting + length text) = subst (λ (g : Bool). EndsIn g old new f.taken f.left (length old.waiting + length text)) same f.ending in
    let flow : f.taken ++ f.left ≡ text = f.flow ∙ ap (λ zs. zs ++ text) empty in
    let front : take (length f.taken) text ≡ f.taken = ap (λ zs. take (length f.taken) zs) (sym flow) ∙ take_front f.taken f.left in
    let none : length old.waiting ≡ 0 = ap length empty in
    record {
      bytes = (length f.taken, subst (λ (zs : List ℕ). Appends old.written new.written zs) (sym front) f.written, omega (arith, ap length flow, length-append f.taken f.left), omega (arith, f.sent, zero));
      count = ends.0;
      room = room_fails old.room new.room (record { gone = new.sent }) (length text) (λ r is. omega (arith, ends.1 r is, none));
      longest = f.longest;
    }

-- A text was written with an empty pen, and the pen has put all.
pub print_done : (a b c : PenState) (text : List ℕ) (failed : Bool) (result : Result (Unit {0}) SinkFault) → a.failed ≡ false → a.waiting ≡ [] → a.sent ≡ 0 → c.failed ≡ failed → (failed ≡ false → c.waiting ≡ []) → Wrote a b text → Wrote b c [] → result ≡ failed_at failed c.sent → PrintedAll a c result text
print_done a b c text failed result fine empty zero same done first second answer =
    let both : Wrote a c text = subst (λ (zs : List ℕ). Wrote a c zs) (append_nil text) (writes_joined a b c text [] first second) in
    subst (λ (r : Result (Unit {0}) SinkFault). PrintedAll a c r text) (sym answer) (printed_all a c text failed fine empty zero same done both)
