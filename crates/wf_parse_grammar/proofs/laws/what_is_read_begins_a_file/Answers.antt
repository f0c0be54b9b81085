use Rattle.std.proofs.Common.{[], ◌∷◌, ◌++◌, ap, ◌∙◌}
use Rattle.wf_parse_grammar.specs.declared.symbols.Sym.TheVariants.{File}
use Rattle.wf_parse_grammar.specs.Grammar.{file_before}
use Rattle.wf_parse_grammar.specs.Completions.{completions}
use Rattle.wf_parse_grammar.specs.Words.{Words}
use Rattle.wf_parse_grammar.proofs.Live.{live}
use Rattle.wf_parse_grammar.proofs.laws.what_is_read_begins_a_file.Goals as goal

pub returns : goal.returns
returns c front wanted e =
    let w : Words (File ∷ []) (front ++ completions wanted []) [] = live front (File ∷ []) wanted e [] in
    (w.1.0, w.1.1 ∙ ap (λ rest. file_before w.1.0 rest) w.2)
