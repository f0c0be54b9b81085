-- What the program has of its words, in the words of their definition.
use Rattle.std.specs.Prelude.{map, string_bytes}
use Rattle.wf_tool.specs.declared.words.PackageWords.{PackageWords as Has}
use Rattle.wf_tool.specs.declared.words.Command.{Command as Asks}
use Rattle.wf_tool.specs.declared.words.Command.TheVariants.{Check, Gen, Run, Mean, Exec}
use Rattle.wf_tool.specs.Words.{PackageWords, Command, check, gen, run, mean, exec}

abbrev pub words_seen : Has → PackageWords
words_seen asked = record { package_name = asked.name.now; files = map (λ file. string_bytes file) asked.files.now }

abbrev pub command_seen : Asks → Command
command_seen (Check asked) = check (words_seen asked)
command_seen (Gen asked) = gen (words_seen asked)
command_seen (Run asked script) = run (words_seen asked) script.now
command_seen (Mean asked script) = mean (words_seen asked) script.now
command_seen (Exec asked) = exec (words_seen asked.package_words) asked.script.now asked.text.now
