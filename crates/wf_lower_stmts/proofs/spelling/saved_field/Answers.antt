use Rattle.std.proofs.Common.{codes, refl, ◌++◌}
use Rattle.wf_exprs.proofs.Prefixes.{s_name}
use Rattle.wf_lower_stmts.proofs.WordLaws.{joined_words}
use Rattle.wf_lower_stmts.proofs.spelling.saved_field.Goals as goal

pub put_words-requires : goal.put_words-requires
put_words-requires c =
    s_name (c.args.method.now ++ (codes "__" ++ c.args.local.now)) (joined_words c.args.method.now (codes "__" ++ c.args.local.now) c.requires.method (joined_words (codes "__") c.args.local.now refl c.requires.local))
