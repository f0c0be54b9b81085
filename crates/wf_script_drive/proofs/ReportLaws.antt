-- The lines of a report, one after the other.
use Rattle.std.proofs.Common.{◌≡◌, ℕ, zero, suc, ◌-◌, arith, slice_get, Some, List, [], ◌∷◌, ◌++◌, length, map, refl, sym, ◌∙◌, ap, subst, append_assoc, All, codes}
use Rattle.std.specs.Prelude.{slice_set}
use Rattle.std.specs.Option.{option_map_or}
use Rattle.std.proofs.lemmas.Option.{same_Some}
use Rattle.std.proofs.lemmas.List.{length-map, length-take}
use Rattle.wf_text.specs.Surface.{Surface}
use Rattle.wf_text.specs.HostActions.{HostAction, Receiver}
use Rattle.wf_text.specs.Seen.{Answer, nothing, SeenBuffer}
use Rattle.wf_base.specs.BaseOps.{Buffer, empty_buffer, seen_buffer, writer_length}
use Rattle.wf_base.specs.BaseOps as ops
use Rattle.wf_base.specs.HostRun.{Host, Response, answers, needs_more, not_defined as isnt_defined, Steps, act, run, followed, empty_host}
use Rattle.wf_script_rules.specs.Names.{Declared}
use Rattle.wf_script_rules.specs.Lines.{Command, declares, acts, shows, sets_turns}
use Rattle.wf_script_rules.specs.Scripts.{Numbered, Script, actions_in, actions_of, declared_host}
use Rattle.wf_script_rules.specs.Report.{Report, finished, out_of_turns, not_defined, report_from, report_of, after_action, action_text, outcome_text}
use Rattle.wf_script_drive.specs.declared.steps.Step.{Step}
use Rattle.wf_script_drive.specs.declared.steps.Step.TheVariants as step
use Rattle.wf_script_drive.specs.Lawful.{HasOwnNumbers, IsScript, MayCome}
use Rattle.wf_script_drive.specs.Sights.{sight_of}
use Rattle.wf_script_drive.specs.Driving.{report_at, in_front, words_text, answered_text, response_to, Responds, WritesLine}
use Rattle.wf_script_drive.proofs.Scripts.{script_sound}

append_nothing : (xs : List ℕ) → xs ++ [] ≡ xs
append_nothing [] = refl
append_nothing (x ∷ xs) = ap (λ ys. x ∷ ys) (append_nothing xs)

answered : {State : Type 0} (steps : Steps State) (surface : Surface) (declared : Declared) (state after : State) (host left : Host) (line : ℕ) (action : HostAction Buffer) (answer : Answer) → act steps state host action ≡ answers answer (after, left) → (others : List Numbered) → report_at steps surface declared state host ((record { line = line; command = acts action }) ∷ others) ≡ in_front ((action_text surface declared action ++ outcome_text declared (sight_of host) (sight_of left) action answer) ++ 10 ∷ []) (report_at steps surface declared after left others)
unfolding report_from
answered steps surface declared state after host left line action answer e others = ap (λ r. after_action surface declared (sight_of host) line action (followed r (λ a l. run steps a l (actions_in others))) (λ seen more. report_from surface declared seen others more)) e

out : {State : Type 0} (steps : Steps State) (surface : Surface) (declared : Declared) (state : State) (host : Host) (line : ℕ) (action : HostAction Buffer) → act steps state host action ≡ needs_more → (others : List Numbered) → report_at steps surface declared state host ((record { line = line; command = acts action }) ∷ others) ≡ record { text = (action_text surface declared action ++ codes "turns") ++ 10 ∷ []; end = out_of_turns line }
unfolding report_from
out steps surface declared state host line action e others = ap (λ r. after_action surface declared (sight_of host) line action (followed r (λ a l. run steps a l (actions_in others))) (λ seen more. report_from surface declared seen others more)) e

undefined : {State : Type 0} (steps : Steps State) (surface : Surface) (declared : Declared) (state : State) (host : Host) (line : ℕ) (action : HostAction Buffer) → act steps state host action ≡ isnt_defined → (others : List Numbered) → report_at steps surface declared state host ((record { line = line; command = acts action }) ∷ others) ≡ record { text = (action_text surface declared action ++ codes "undefined") ++ 10 ∷ []; end = not_defined line }
unfolding report_from
undefined steps surface declared state host line action e others = ap (λ r. after_action surface declared (sight_of host) line action (followed r (λ a l. run steps a l (actions_in others))) (λ seen more. report_from surface declared seen others more)) e

answer_parts : {State : Type 0} (state after : State) (host left : Host) (answer : Answer) → ◌≡◌ {A = Response (State × Host)} (answers nothing (state, host)) (answers answer (after, left)) → (state ≡ after) × (host ≡ left)
answer_parts {State} state after host left answer e = let both : ◌≡◌ {A = State × Host} (state, host) (after, left) = cc (e) in (ap (λ (p : State × Host). p.0) both, ap (λ (p : State × Host). p.1) both)

-- a line of a command that is no action, after which all is as it was
plain : {State : Type 0} (steps : Steps State) (surface : Surface) (declared : Declared) (state after : State) (host left : Host) (text : List ℕ) (one : Numbered) (answer : Answer) → ((others : List Numbered) → report_at steps surface declared state host (one ∷ others) ≡ in_front (text ++ 10 ∷ []) (report_at steps surface declared state host others)) → ◌≡◌ {A = Response (State × Host)} (answers nothing (state, host)) (answers answer (after, left)) → (others : List Numbered) → report_at steps surface declared state host (one ∷ others) ≡ in_front ((text ++ []) ++ 10 ∷ []) (report_at steps surface declared after left others)
plain steps surface declared state after host left text one answer is e others =
    let parts = answer_parts state after host left answer e in
    is others ∙ (ap (λ t. in_front (t ++ 10 ∷ []) (report_at steps surface declared state host others)) (sym (append_nothing text)) ∙ (ap (λ s. in_front ((text ++ []) ++ 10 ∷ []) (report_at steps surface declared s host others)) parts.0 ∙ ap (λ h. in_front ((text ++ []) ++ 10 ∷ []) (report_at steps surface declared after h others)) parts.1))

plain_is : {State : Type 0} (steps : Steps State) (surface : Surface) (declared : Declared) (state after : State) (host left : Host) (line : ℕ) (command : Command) (answer : Answer) → response_to steps state host command ≡ answers answer (after, left) → (others : List Numbered) → report_at steps surface declared state host ((record { line = line; command = command }) ∷ others) ≡ in_front ((words_text surface declared (sight_of host) command ++ answered_text declared (sight_of host) (sight_of left) command answer) ++ 10 ∷ []) (report_at steps surface declared after left others)
unfolding report_from
plain_is steps surface declared state after host left line (acts action) answer e others = answered steps surface declared state after host left line action answer e others
plain_is steps surface declared state after host left line (declares it) answer e others = plain steps surface declared state after host left (words_text surface declared (sight_of host) (declares it)) (record { line = line; command = declares it }) answer (λ o. refl) e others
plain_is steps surface declared state after host left line (shows it) answer e others = plain steps surface declared state after host left (words_text surface declared (sight_of host) (shows it)) (record { line = line; command = shows it }) answer (λ o. refl) e others
plain_is steps surface declared state after host left line (sets_turns n) answer e others = plain steps surface declared state after host left (words_text surface declared (sight_of host) (sets_turns n)) (record { line = line; command = sets_turns n }) answer (λ o. refl) e others

out_is : {State : Type 0} (steps : Steps State) (surface : Surface) (declared : Declared) (state : State) (host : Host) (line : ℕ) (command : Command) → response_to steps state host command ≡ needs_more → (others : List Numbered) → report_at steps surface declared state host ((record { line = line; command = command }) ∷ others) ≡ record { text = (words_text surface declared (sight_of host) command ++ codes "turns") ++ 10 ∷ []; end = out_of_turns line }
out_is steps surface declared state host line (acts action) e others = out steps surface declared state host line action e others
out_is steps surface declared state host line (declares it) e others = absurd (cc (e))
out_is steps surface declared state host line (shows it) e others = absurd (cc (e))
out_is steps surface declared state host line (sets_turns n) e others = absurd (cc (e))

undefined_is : {State : Type 0} (steps : Steps State) (surface : Surface) (declared : Declared) (state : State) (host : Host) (line : ℕ) (command : Command) → response_to steps state host command ≡ isnt_defined → (others : List Numbered) → report_at steps surface declared state host ((record { line = line; command = command }) ∷ others) ≡ record { text = (words_text surface declared (sight_of host) command ++ codes "undefined") ++ 10 ∷ []; end = not_defined line }
undefined_is steps surface declared state host line (acts action) e others = undefined steps surface declared state host line action e others
undefined_is steps surface declared state host line (declares it) e others = absurd (cc (e))
undefined_is steps surface declared state host line (shows it) e others = absurd (cc (e))
undefined_is steps surface declared state host line (sets_turns n) e others = absurd (cc (e))

-- The words of a line, its answer and a line feed are the line.
pub line_written : {State S : Type 0} (Writes : S → S → List ℕ → Type 0) (p q r t : S) (steps : Steps State) (surface : Surface) (declared : Declared) (state after : State) (host left : Host) (one : Numbered) (done : Step) → ((a b c : S) (x y : List ℕ) → Writes a b x → Writes b c y → Writes a c (x ++ y)) → Writes p q (words_text surface declared (sight_of host) one.command) → Responds (Writes q r) (response_to steps state host one.command) (λ l answer. answered_text declared (sight_of host) (sight_of l) one.command answer) done after left → Writes r t (10 ∷ []) → WritesLine (Writes p t) steps surface declared state host one done after left
line_written Writes p q r t steps surface declared state after host left one step.GoesOn joined words responds feed = (_, joined p r t _ (10 ∷ []) (joined p q r _ _ words responds.2) feed, plain_is steps surface declared state after host left one.line one.command responds.0 responds.1)
line_written Writes p q r t steps surface declared state after host left one step.Turns joined words responds feed = (_, joined p r t _ (10 ∷ []) (joined p q r _ _ words responds.1) feed, out_is steps surface declared state host one.line one.command responds.0)
line_written Writes p q r t steps surface declared state after host left one step.Undefined joined words responds feed = (_, joined p r t _ (10 ∷ []) (joined p q r _ _ words responds.1) feed, undefined_is steps surface declared state host one.line one.command responds.0)

-- How far a report was written: `left` of it is to be written.
pub record Reaches {S : Type 0} (Writes : S → S → List ℕ → Type 0) (whole left : Report) (start now : S) : Type 0 where
  pub front : List ℕ
  pub wrote : Writes start now front
  pub is : whole ≡ in_front front left

pub reach_first : {S : Type 0} (Writes : S → S → List ℕ → Type 0) (whole : Report) (start : S) → Writes start start [] → Reaches Writes whole whole start start
reach_first Writes whole start empty = record { front = []; wrote = empty; is = refl }

pub reach_on : {S : Type 0} (Writes : S → S → List ℕ → Type 0) (whole left after : Report) (start now next : S) (text : List ℕ) → ((a b c : S) (x y : List ℕ) → Writes a b x → Writes b c y → Writes a c (x ++ y)) → Reaches Writes whole left start now → left ≡ in_front text after → Writes now next text → Reaches Writes whole after start next
reach_on Writes whole left after start now next text joined so_far is wrote = record {
  front = so_far.front ++ text;
  wrote = joined start now next so_far.front text so_far.wrote wrote;
  is = so_far.is ∙ (ap (λ r. in_front so_far.front r) is ∙ ap (λ t. record { text = t; end = after.end }) (sym (append_assoc so_far.front text after.text)));
}

-- all is written
pub nothing_left : {State : Type 0} (steps : Steps State) (surface : Surface) (declared : Declared) (state : State) (host : Host) (commands : List Numbered) → commands ≡ [] → report_at steps surface declared state host commands ≡ record { text = []; end = finished }
unfolding report_from
nothing_left steps surface declared state host commands e = ap (λ (l : List Numbered). report_at steps surface declared state host l) e

-- The commands of a script that was read may come where its host stands.
pub commands_may : (surface : Surface) (script : Script) (receivers : List Receiver) (host : Host) → HasOwnNumbers surface → IsScript surface script → receivers ≡ script.declared.receivers → host ≡ declared_host script.declared → All (λ (one : Numbered). MayCome surface receivers (length host.buffers) (length host.arrays) one.command) script.commands
commands_may surface script receivers host own is same stands =
    let may = (script_sound surface script own is).may in
    let count : length script.declared.sizes ≡ length host.buffers = sym (ap (λ (h : Host). length h.buffers) stands ∙ length-map script.declared.sizes empty_buffer) in
    let arrays : length script.declared.arrays ≡ length host.arrays = sym (ap (λ (h : Host). length h.arrays) stands) in
    let first = subst (λ (rs : List Receiver). All (λ (one : Numbered). MayCome surface rs (length script.declared.sizes) (length script.declared.arrays) one.command) script.commands) (sym same) may in
    let second = subst (λ (n : ℕ). All (λ (one : Numbered). MayCome surface receivers n (length script.declared.arrays) one.command) script.commands) count first in
    subst (λ (n : ℕ). All (λ (one : Numbered). MayCome surface receivers (length host.buffers) n one.command) script.commands) arrays second

-- A put moves `wi` by the bytes that it appends.
pub put_moves : (buffers : List Buffer) (k : ℕ) (b : Buffer) (bytes : List ℕ) → slice_get buffers k ≡ Some b → option_map_or (λ (it : SeenBuffer). it.wi) (slice_get (map seen_buffer (slice_set buffers k (ops.put bytes b))) k) 0 - option_map_or (λ (it : SeenBuffer). it.wi) (slice_get (map seen_buffer buffers) k) 0 ≡ ops.put_count bytes b
put_moves [] k b bytes e = absurd (cc (e))
put_moves (x ∷ xs) zero b bytes e =
    let same : x.wi ≡ b.wi = ap (λ (it : Buffer). it.wi) (same_Some x b e) in
    omega (arith, same, length-take (writer_length b) bytes)
put_moves (x ∷ xs) (suc k) b bytes e = put_moves xs k b bytes e

-- The report of a script's commands, where the script's host stands, is the script's.
pub report_whole : {State : Type 0} (steps : Steps State) (surface : Surface) (script : Script) (declared : Declared) (state : State) (host : Host) (commands : List Numbered) → declared ≡ script.declared → commands ≡ script.commands → host ≡ declared_host script.declared → report_at steps surface declared state host commands ≡ report_of surface script (run steps state empty_host (actions_of script))
report_whole steps surface script declared state host commands e1 e2 e3 =
    ap (λ (d : Declared). report_at steps surface d state host commands) e1 ∙ (ap (λ (l : List Numbered). report_at steps surface script.declared state host l) e2 ∙ ap (λ (h : Host). report_at steps surface script.declared state h script.commands) e3)

-- nothing is left
pub reach_done : {S : Type 0} (Writes : S → S → List ℕ → Type 0) (whole left : Report) (start now : S) → Reaches Writes whole left start now → left ≡ record { text = []; end = finished } → Writes start now whole.text × (whole.end ≡ finished)
reach_done Writes whole left start now so_far over = (
  subst (λ (t : List ℕ). Writes start now t) (sym (ap (λ (r : Report). r.text) so_far.is ∙ (ap (λ (r : Report). so_far.front ++ r.text) over ∙ append_nothing so_far.front))) so_far.wrote,
  ap (λ (r : Report). r.end) so_far.is ∙ ap (λ (r : Report). r.end) over,
)

-- the command at a place, and its line
pub line_on : {State S : Type 0} (Writes : S → S → List ℕ → Type 0) (whole : Report) (start now next : S) (steps : Steps State) (surface : Surface) (declared : Declared) (state after : State) (host left : Host) (one : Numbered) (others rest : List Numbered) → ((a b c : S) (x y : List ℕ) → Writes a b x → Writes b c y → Writes a c (x ++ y)) → Reaches Writes whole (report_at steps surface declared state host rest) start now → rest ≡ one ∷ others → WritesLine (Writes now next) steps surface declared state host one step.GoesOn after left → Reaches Writes whole (report_at steps surface declared after left others) start next
line_on Writes whole start now next steps surface declared state after host left one others rest joined so_far is line = reach_on Writes whole (report_at steps surface declared state host rest) (report_at steps surface declared after left others) start now next line.0 joined so_far (ap (λ (l : List Numbered). report_at steps surface declared state host l) is ∙ line.2 others) line.1
