use Rattle.std.proofs.Common.{◌≡◌, ◌∷◌, ◌&&◌, false, nat_le, sym, ◌∙◌}
use Rattle.wf_parse_grammar.specs.declared.builds.Build.TheVariants as builds
use Rattle.wf_parse_grammar.specs.declared.symbols.Want.TheVariants.{Read}
use Rattle.wf_parse_grammar.specs.Building.{open_wants}
use Rattle.wf_parse_grammar.specs.Machine.{opens}
use Rattle.wf_parse_grammar.specs.Wanted.{led_by}
use Rattle.wf_parse_nodes.specs.Makers.{made}
use Rattle.wf_parse.specs.Machines.{state_of}
use Rattle.wf_parse.proofs.Keeping.{memory_only, taken_answers, take_passes, no_first, no_second, no_third}
use Rattle.wf_parse.proofs.machine.Machine.take_led.Goals as goal
use Rattle.wf_parse.proofs.machine.Machine.take_led.Goals.{else-limited-via-then-limited+then-opens+else-is_deep, else-limited-via-then-limited+else-opens, else-limited-via-else-limited}

pub returns-clause-answers : goal.returns-clause-answers
returns-clause-answers c =
    let within : (c.args.limited && opens c.args.token.kind && nat_le 48 (open_wants (Read c.args.symbol ∷ c.args.self.now.wants))) ≡ false = elim c.else-limited.branch [
      | else-limited-via-then-limited+then-opens+else-is_deep w ↦ no_third c.args.limited (opens c.args.token.kind) (nat_le 48 (open_wants (Read c.args.symbol ∷ c.args.self.now.wants))) (sym w.is_deep.ensures ∙ w.if-is_deep.false)
      | else-limited-via-then-limited+else-opens w ↦ no_second c.args.limited (opens c.args.token.kind) (nat_le 48 (open_wants (Read c.args.symbol ∷ c.args.self.now.wants))) (sym w.opens.ensures ∙ w.if-opens.false)
      | else-limited-via-else-limited w ↦ no_first c.args.limited (opens c.args.token.kind) (nat_le 48 (open_wants (Read c.args.symbol ∷ c.args.self.now.wants))) w.if-limited.false
    ] in
    taken_answers c.want_led.result c.args.limited c.args.symbol c.args.token (builds.Take (led_by c.args.lead c.args.wants.now)) (led_by c.args.lead c.args.wants.now) (state_of c.args.self.now) (state_of c.want_led.new.self)
    (take_passes c.args.limited c.args.symbol c.args.token.kind (led_by c.args.lead c.args.wants.now) c.args.self.now.wants c.args.self.now.room c.want_led.new.self.room (made c.args.self.now.maker) within c.want_led.ensures.room)
    c.want_led.ensures.ok c.want_led.ensures.err c.want_led.ensures.wanted

pub returns-clause-refused : goal.returns-clause-refused
returns-clause-refused c = memory_only c.want_led.result c.args.self.now.maker.package c.want_led.new.self.maker.package c.want_led.ensures.err
