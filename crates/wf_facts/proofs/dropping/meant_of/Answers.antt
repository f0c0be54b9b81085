use Rattle.std.proofs.Common.{◌≤◌, ◌<◌, List, ℕ, length, sym, ◌∙◌, subst, arith}
use Rattle.wf_facts.specs.IndexedFacts.{mentioning}
use Rattle.wf_facts.proofs.DropLemmas.{Gathers, Gathers-all, Gathers-first, Gathers-on, Gathers-put, length-mentioning, marked-mentioning}
use Rattle.wf_facts.proofs.dropping.meant_of.Goals as goal

pub loop-i-init : goal.loop-i-init
loop-i-init c =
    let marks = mentioning c.args.t.now c.args.x c.args.list.now in
    let P : List ℕ → Type 0 = λ ws. Gathers (mentioning c.args.t.now c.args.x c.args.list.now) ws 0 in
    Gathers-on marks c.args.around.now.words c.new-meant.result.words 0 c.first-i.result (omega arith) c.requires.around c.first-i.ensures.before (subst P (sym c.new-meant.ensures.words) (Gathers-first marks))

pub loop-i-preserved : goal.loop-i-preserved
loop-i-preserved c =
    let marks = mentioning c.args.t.now c.args.x c.args.list.now in
    let within : c.loop-i.i < length c.args.list.now = omega arith in
    Gathers-on marks c.args.around.now.words c.put.new.self.words _ c.first-i-in-loop-i.result c.first-i-in-loop-i.ensures.start c.requires.around c.first-i-in-loop-i.ensures.before
    (Gathers-put marks c.loop-i.meant.words c.put.new.self.words c.loop-i.i c.fact_mentions.result c.loop-i.invariant (omega (arith, within, c.requires.few))
    (c.fact_mentions.ensures ∙ sym (marked-mentioning c.args.t.now c.args.x c.args.list.now c.loop-i.i _ within)) c.put.ensures)

pub returns : goal.returns
returns c =
    let marks = mentioning c.args.t.now c.args.x c.args.list.now in
    let long : length (mentioning c.args.t.now c.args.x c.args.list.now) ≤ c.loop-i.i = omega (arith, length-mentioning c.args.t.now c.args.x c.args.list.now) in
    Gathers-all marks c.loop-i.meant.words c.loop-i.i long c.loop-i.invariant
