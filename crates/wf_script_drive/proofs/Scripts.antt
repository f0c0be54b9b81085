-- The commands of a script that was read may come, and its actions are lawful.
use Rattle.std.proofs.Common.{◌≡◌, ℕ, ◌+◌, ◌<◌, ◌^◌, List, [], ◌∷◌, length, map, refl, sym, subst, arith, Ok, Err, All}
use Rattle.std.specs.Prelude.{nat_lt}
use Rattle.std.proofs.lemmas.List.{length-replicate, length-map}
use Rattle.std.proofs.lemmas.List.Elements.{All-nil, All-push, All-weaker, All-map, All-replicate, All-head, All-tail}
use Rattle.wf_text.specs.Surface.{Surface}
use Rattle.wf_text.specs.HostActions.{init, call, put, close, compact, replace, Receiver}
use Rattle.wf_base.specs.BaseOps.{IsLawful, empty_buffer}
use Rattle.wf_base.specs.LawfulActions.{AreLawful, IsByteArray}
use Rattle.wf_script_rules.specs.Text.{lines_of, words_of}
use Rattle.wf_script_rules.specs.Names.{Declared}
use Rattle.wf_script_rules.specs.Lines.{Command, declares, acts, shows, sets_turns, Line, is_skipped, line_of}
use Rattle.wf_script_rules.specs.Scripts.{Numbered, Script, empty_script, with_line, read_line, read_lines, script_of, actions_in, actions_of}
use Rattle.wf_script_drive.specs.Lawful.{HasOwnNumbers, IsScript, MayCome}
use Rattle.wf_script_drive.proofs.Readings.{same_ok, no_value, first_ok, cond_ok}
use Rattle.wf_script_drive.proofs.Lines.{IsSound, LineIsSound, line_sound, may_later}

-- What holds of what was read so far.
pub record IsReadSoundly (surface : Surface) (script : Script) : Type 0 where
  pub sound : IsSound surface script.declared
  pub may : All (λ (one : Numbered). MayCome surface script.declared.receivers (length script.declared.sizes) (length script.declared.arrays) one.command) script.commands

nothing_read : (surface : Surface) → IsReadSoundly surface empty_script
nothing_read surface = record {
  sound = record {
    names = All-nil _;
    receivers = All-nil _;
    sizes = All-nil (λ (size : ℕ). size < 2 ^ 64);
    arrays = All-nil IsByteArray;
  };
  may = All-nil _;
}

line_read : (surface : Surface) (n : ℕ) (script more : Script) (line : Line) → IsReadSoundly surface script → ((read : Declared × Command) → line ≡ Ok read → LineIsSound surface script.declared read) → with_line n script line ≡ Ok more → IsReadSoundly surface more
line_read surface n script more (Ok read) so_far sounds e =
    let one = sounds read refl in
    subst (λ (s : Script). IsReadSoundly surface s) (same_ok _ more e) (record {
      sound = one.sound;
      may = All-push (λ (it : Numbered). MayCome surface read.0.receivers (length read.0.sizes) (length read.0.arrays) it.command) script.commands (record { line = n; command = read.1 }) (All-weaker (λ (it : Numbered). MayCome surface script.declared.receivers (length script.declared.sizes) (length script.declared.arrays) it.command) (λ (it : Numbered). MayCome surface read.0.receivers (length read.0.sizes) (length read.0.arrays) it.command) (λ it h. may_later surface script.declared read.0 it.command one.grows h) script.commands so_far.may) one.may;
    })
line_read surface n script more (Err rule) so_far sounds e = no_value _ more e

words_read : (surface : Surface) (n : ℕ) (script more : Script) (words : List (List ℕ)) → HasOwnNumbers surface → IsReadSoundly surface script → read_line surface n script words ≡ Ok more → IsReadSoundly surface more
unfolding read_line
words_read surface n script more words own so_far e =
    cond_ok (nat_lt 65536 n) _ _ more e (λ t q. no_value _ more q) (λ t q.
    cond_ok (is_skipped words) (Ok script) (with_line n script (line_of surface script.declared words)) more q (λ u p. subst (λ (s : Script). IsReadSoundly surface s) (same_ok script more p) so_far) (λ u p. line_read surface n script more (line_of surface script.declared words) so_far (λ read is. line_sound surface script.declared words read own so_far.sound is) p))

lines_read : (surface : Surface) (n : ℕ) (script more : Script) (lines : List (List ℕ)) → HasOwnNumbers surface → IsReadSoundly surface script → read_lines surface n script lines ≡ Ok more → IsReadSoundly surface more
unfolding read_lines
lines_read surface n script more [] own so_far e = subst (λ (s : Script). IsReadSoundly surface s) (same_ok script more e) so_far
lines_read surface n script more (line ∷ lines) own so_far e = first_ok (read_line surface n script (words_of line)) (λ next. read_lines surface (n + 1) next lines) more e (λ next is rest. lines_read surface (n + 1) next more lines own (words_read surface n script next (words_of line) own so_far is) rest)

pub script_sound : (surface : Surface) (script : Script) → HasOwnNumbers surface → IsScript surface script → IsReadSoundly surface script
unfolding script_of
script_sound surface script own is = cond_ok (nat_lt 1048576 (length is.0)) _ _ script is.1 (λ t q. no_value _ script q) (λ t q. lines_read surface 1 empty_script script (lines_of is.0) own (nothing_read surface) q)

-- Commands that may come are lawful one after the other.
command_lawful : (surface : Surface) (receivers : List Receiver) (b a : ℕ) (line : ℕ) (command : Command) (others : List Numbered) → MayCome surface receivers b a command → AreLawful surface receivers b a (actions_in others) → AreLawful surface receivers b a (actions_in ((record { line = line; command = command }) ∷ others))
command_lawful surface receivers b a line (acts (init receiver within)) others h rest = (h, rest)
command_lawful surface receivers b a line (acts (call receiver method args within)) others h rest = (h, rest)
command_lawful surface receivers b a line (acts (put buffer more)) others h rest = (h, rest)
command_lawful surface receivers b a line (acts (close buffer)) others h rest = (h, rest)
command_lawful surface receivers b a line (acts (compact buffer)) others h rest = (h, rest)
command_lawful surface receivers b a line (acts (replace buffers strings)) others h rest = absurd h
command_lawful surface receivers b a line (declares it) others h rest = rest
command_lawful surface receivers b a line (shows it) others h rest = rest
command_lawful surface receivers b a line (sets_turns n) others h rest = rest

commands_lawful : (surface : Surface) (receivers : List Receiver) (b a : ℕ) (commands : List Numbered) → All (λ (one : Numbered). MayCome surface receivers b a one.command) commands → AreLawful surface receivers b a (actions_in commands)
commands_lawful surface receivers b a [] all = tt
commands_lawful surface receivers b a (one ∷ others) all = command_lawful surface receivers b a one.line one.command others (All-head (λ (it : Numbered). MayCome surface receivers b a it.command) one others all) (commands_lawful surface receivers b a others (All-tail (λ (it : Numbered). MayCome surface receivers b a it.command) one others all))

empty_lawful : (size : ℕ) → size < 2 ^ 64 → IsLawful (empty_buffer size)
empty_lawful size small = record {
  read = omega arith;
  written = omega arith;
  bytes = All-replicate (λ (cell : ℕ). cell < 2 ^ 8) size 0 (omega arith);
  size = omega (arith, small, length-replicate {A = ℕ} size 0);
  counted = omega arith;
}

pub script_lawful : (surface : Surface) (script : Script) → HasOwnNumbers surface → IsScript surface script → AreLawful surface script.declared.receivers 0 0 (actions_of script)
script_lawful surface script own is =
    let read = script_sound surface script own is in
    let buffers : All IsLawful (map empty_buffer script.declared.sizes) = All-map IsLawful empty_buffer script.declared.sizes (All-weaker (λ (size : ℕ). size < 2 ^ 64) (λ (size : ℕ). IsLawful (empty_buffer size)) (λ size small. empty_lawful size small) script.declared.sizes read.sound.sizes) in
    let count : length (map empty_buffer script.declared.sizes) ≡ length script.declared.sizes = length-map script.declared.sizes empty_buffer in
    ((buffers, read.sound.arrays), subst (λ (n : ℕ). AreLawful surface script.declared.receivers n (length script.declared.arrays) (actions_in script.commands)) (sym count) (commands_lawful surface script.declared.receivers (length script.declared.sizes) (length script.declared.arrays) script.commands read.may))
