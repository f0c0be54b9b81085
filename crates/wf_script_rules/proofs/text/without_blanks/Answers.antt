use Rattle.std.proofs.Common.{sym, ◌∙◌, ap, drop, not}
use Rattle.wf_script_rules.specs.Text.{is_blank, words_of, begins}
use Rattle.wf_script_rules.proofs.Places.{place, no_place}
use Rattle.wf_script_rules.proofs.TextLaws.{skip_blanks, no_words, blanks_end}
use Rattle.wf_script_rules.proofs.text.without_blanks.Goals as goal

pub returns-in-Some-clause-words : goal.returns-in-Some-clause-words
returns-in-Some-clause-words c =
    let found = place (λ byte. not (is_blank byte)) c.args.text.now c.in-Some.k (sym c.in-Some.ensures) in
    ap words_of (c.split_at.ensures.back ∙ ap (λ n. drop n c.args.text.now) (sym found.first)) ∙ skip_blanks c.args.text.now

pub returns-in-Some-clause-front : goal.returns-in-Some-clause-front
returns-in-Some-clause-front c =
    let found = place (λ byte. not (is_blank byte)) c.args.text.now c.in-Some.k (sym c.in-Some.ensures) in
    ap (begins is_blank) (c.split_at.ensures.back ∙ ap (λ n. drop n c.args.text.now) (sym found.first)) ∙ blanks_end c.args.text.now

pub returns-in-None-clause-words : goal.returns-in-None-clause-words
unfolding words_of
returns-in-None-clause-words c = sym (no_words c.args.text.now (no_place (λ byte. not (is_blank byte)) c.args.text.now (sym c.in-None.ensures)))
