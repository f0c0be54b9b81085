use Rattle.std.proofs.Common.{◌∙◌, ap, sym}
use Rattle.std.specs.List.{list_all}
use Rattle.c_text.specs.CSpelling.{is_word_byte}
use Rattle.wf_lower_stmts.proofs.WordLaws.{initialize_is_name}
use Rattle.wf_lower_stmts.proofs.spelling.initialize_name.Goals as goal

pub put_spelt-requires : goal.put_spelt-requires
put_spelt-requires c =
    rw (c.as_slice.ensures.value, c.in_ok-text.ensures.is)
    (initialize_is_name c.args.t.now c.args.s.0 (ap (list_all is_word_byte) (sym c.in_ok-text.ensures.is) ∙ c.in_ok-text.ensures.word))
