use Rattle.std.proofs.Common.{◌≡◌, ◌&&◌, false, nat_eq, ◌∙◌}
use Rattle.wf_parse_grammar.specs.declared.builds.Build.TheVariants as builds
use Rattle.wf_parse_nodes.specs.Makers.{made}
use Rattle.wf_parse.specs.Machines.{state_of}
use Rattle.std.proofs.lemmas.Bool.{ne_eqb}
use Rattle.wf_parse.proofs.Keeping.{memory_only, taken_answers, begin_passes, neither_first, neither_second}
use Rattle.wf_parse.proofs.machine.Machine.begin.Goals as goal
use Rattle.wf_parse.proofs.machine.Machine.begin.Goals.{else-limited-via-then-limited+else-self-eq0, else-limited-via-else-limited}

pub returns-clause-answers : goal.returns-clause-answers
returns-clause-answers c =
    let within : (c.args.limited && nat_eq c.args.self.now.room 0) ≡ false = elim c.else-limited.branch [
      | else-limited-via-then-limited+else-self-eq0 w ↦ neither_second c.args.limited (nat_eq c.args.self.now.room 0) (ne_eqb c.args.self.now.room 0 w.if-self-eq0.false)
      | else-limited-via-else-limited w ↦ neither_first c.args.limited (nat_eq c.args.self.now.room 0) w.if-limited.false
    ] in
    taken_answers c.want.result c.args.limited c.args.symbol c.args.token (builds.Begin c.args.wants.now) c.args.wants.now (state_of c.args.self.now) (state_of c.want.new.self)
    (begin_passes c.args.limited c.args.symbol c.args.token.kind c.args.wants.now c.args.self.now.wants c.args.self.now.room c.want.new.self.room (made c.args.self.now.maker) within (c.want.ensures.room ∙ c.saturating_sub-self.ensures))
    c.want.ensures.ok c.want.ensures.err c.want.ensures.wanted

pub returns-clause-refused : goal.returns-clause-refused
returns-clause-refused c = memory_only c.want.result c.args.self.now.maker.package c.want.new.self.maker.package c.want.ensures.err
