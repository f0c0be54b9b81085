-- Small scripts and what they are: computed from the definition.
use Rattle.std.proofs.Common.{◌≡◌, ℕ, List, [], ◌∷◌, ◌++◌, Err, refl, codes}
use Rattle.wf_text.specs.Surface.{Surface, status, number, reader, writer}
use Rattle.wf_text.specs.HostActions.{init, put, call}
use Rattle.wf_script_rules.specs.declared.rules.XRule.TheVariants.{X1, X2, X3, X4, X5}
use Rattle.wf_script_rules.specs.Text.{lines_of, words_of}
use Rattle.wf_script_rules.specs.Words.{number_up_to, verb_of}
use Rattle.wf_script_rules.specs.Values.{new_name, known, known_struct, known_method, target_of, io_value, arg_word, arg_value, with_arg, with_args, all_given, args_of}
use Rattle.wf_script_rules.specs.Lines.{new_receiver, receiver_words, receiver_line, new_store, buffer_size, buffer_words, buffer_line, init_line, turns_line, call_line, line_of}
use Rattle.wf_script_rules.specs.Scripts.{read_line, read_lines, script_of}

-- A package with one public struct `x` and one public coroutine, which reads and writes.
pub two_ends : Surface
two_ends = record {
  package_name = codes "x";
  statuses = [] ∷ [];
  structs = (record {
    number = 0;
    name = codes "x";
    methods = (record {
      number = 0;
      name = codes "f";
      args = (record { name = codes "src"; kind = reader }) ∷ (record { name = codes "dst"; kind = writer }) ∷ [];
      answers = status;
    }) ∷ [];
  }) ∷ [];
}

feed : List ℕ
feed = 10 ∷ []

-- A carriage return before a line feed goes, and blanks don't count.
pub two_lines : lines_of (codes "a" ++ 13 ∷ 10 ∷ codes "b") ≡ codes "a" ∷ codes "b" ∷ []
unfolding lines_of
two_lines = refl

pub two_words : words_of (codes " put  b ") ≡ codes "put" ∷ codes "b" ∷ []
unfolding words_of
two_words = refl

-- No command.
pub no_command : script_of two_ends (codes "frob") ≡ Err (record { line = 1; rule = X1 })
unfolding two_ends script_of read_lines read_line lines_of words_of line_of verb_of
no_command = refl

-- A name that nothing declares.
pub unknown_name : script_of two_ends (codes "init q") ≡ Err (record { line = 1; rule = X2 })
unfolding two_ends script_of read_lines read_line lines_of words_of line_of verb_of init_line known
unknown_name = refl

-- Too many turns.
pub too_many_turns : script_of two_ends (codes "turns 10000001") ≡ Err (record { line = 1; rule = X4 })
unfolding two_ends script_of read_lines read_line lines_of words_of line_of verb_of turns_line number_up_to
too_many_turns = refl

-- A name declared twice.
pub declared_twice : script_of two_ends (codes "buf b 4" ++ 10 ∷ codes "buf b 4") ≡ Err (record { line = 2; rule = X3 })
unfolding two_ends script_of read_lines read_line lines_of words_of line_of verb_of buffer_line buffer_words new_store new_name buffer_size number_up_to
declared_twice = refl

-- A buffer that stands twice in one call.
pub stands_twice : script_of two_ends (codes "new p x" ++ 10 ∷ codes "init p" ++ 10 ∷ codes "buf b 4" ++ 10 ∷ codes "call p.f src=b dst=b") ≡ Err (record { line = 4; rule = X5 })
unfolding two_ends script_of read_lines read_line lines_of words_of line_of verb_of receiver_line receiver_words new_receiver new_name known_struct init_line known buffer_line buffer_words new_store buffer_size number_up_to call_line target_of known_method args_of with_args with_arg arg_word arg_value io_value
stands_twice = refl

-- A missing argument is found at the line's end.
pub missing_argument : script_of two_ends (codes "new p x" ++ 10 ∷ codes "call p.f src=null") ≡ Err (record { line = 2; rule = X3 })
unfolding two_ends script_of read_lines read_line lines_of words_of line_of verb_of receiver_line receiver_words new_receiver new_name known_struct known call_line target_of known_method args_of with_args with_arg arg_word arg_value io_value all_given
missing_argument = refl
