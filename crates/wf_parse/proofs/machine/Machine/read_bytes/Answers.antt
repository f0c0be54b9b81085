use Rattle.std.proofs.Common.{◌+◌, ◌-◌, ◌∙◌, length, refl, sym, ap, arith}
use Rattle.std.proofs.lemmas.Result.{err_from_is_err_and}
use Rattle.wf_ast.specs.ParsedParts.{Parsed}
use Rattle.wf_parse_grammar.specs.Building.{ends}
use Rattle.wf_parse_nodes.specs.Makers.{made}
use Rattle.wf_parse.specs.Machines.{State, state_of}
use Rattle.wf_parse.proofs.FileReading.{texts_sound, state_with, same_state, so_far_more, so_far_refused, so_far_read, next_fault, end_fault}
use Rattle.wf_parse.proofs.machine.Machine.read_bytes.Goals as goal

pub read_token-requires-clause-sound : goal.read_token-requires-clause-sound
read_token-requires-clause-sound c = texts_sound c.loop-tokens.self.maker _ c.loop-tokens.invariant.sound c.in_ok-token.ensures.same refl

pub end_file-requires-clause-sound : goal.end_file-requires-clause-sound
end_file-requires-clause-sound c = texts_sound c.loop-tokens.self.maker _ c.loop-tokens.invariant.sound c.in_ok-token.ensures.same refl

pub returns-in_err-token-clause-answers : goal.returns-in_err-token-clause-answers
returns-in_err-token-clause-answers c =
    let p = err_from_is_err_and c.from_residual-in_err-token.result c.from_residual-in_err-token.ensures.1 in
    rw (p.1, p.2) (next_fault c.args.number c.args.most c.args.bytes.now c.args.self.now.maker.package c.next.new.parsed c.loop-tokens.tokens c.next.new.self c.loop-tokens.self.maker.package.texts c.next.new.parsed.texts
    c.loop-tokens.most (state_of c.loop-tokens.self) c.in_err-token.field-0.0 c.loop-tokens.invariant.read c.in_err-token.ensures.answers)

pub loop-tokens-preserved : goal.loop-tokens-preserved
loop-tokens-preserved c =
    let machine = c.loop-tokens.self in
    let one = rw c.in-Some.is at c.in_ok-token.ensures.answers in
    let falls = rw c.in-Some.is at c.in_ok-token.ensures.falls in
    let grows = rw c.in-Some.is at c.in_ok-token.ensures.room in
    let same = same_state machine.room machine.wants machine.maker.values machine.maker.package c.next.new.parsed c.in_ok-token.ensures.same in
    let kept = ap length c.in-Ok.ensures.texts.texts in
    let nodes_kept = ap (λ (p : Parsed). length p.exprs + length p.stmts) c.in_ok-token.ensures.same in
    let texts_then = c.loop-tokens.invariant.texts in
    let size_then = c.loop-tokens.invariant.size in
    let size_now = c.in-Ok.ensures.size in
    record {
      sound = c.in-Ok.ensures.sound;
      read = so_far_more c.args.number c.args.most c.args.bytes.now c.args.self.now.maker.package c.loop-tokens.tokens c.next.new.self machine.maker.package.texts c.next.new.parsed.texts c.read_token.new.self.maker.package.texts
          c.in-Some.token c.loop-tokens.most (c.loop-tokens.most - 1) (state_of machine) (state_with machine.room machine.wants machine.maker.values c.next.new.parsed) (state_of c.read_token.new.self)
          c.loop-tokens.invariant.read same one c.in-Ok.ensures.texts.texts c.in-Ok.ensures.answers refl;
      named = c.in-Ok.ensures.texts.name ∙ ap (λ (p : Parsed). p.name) c.in_ok-token.ensures.same ∙ c.loop-tokens.invariant.named;
      texts = omega (arith, kept, grows, falls, texts_then);
      size = omega (arith, size_now, nodes_kept, falls, size_then);
    }

pub pass_over-requires : goal.pass_over-requires
pass_over-requires c =
    let falls = rw c.in-Some.is at c.in_ok-token.ensures.falls in
    let grows = rw c.in-Some.is at c.in_ok-token.ensures.room in
    let keeps = rw c.in-Err-Refused.field-0-is at c.in-Err-Refused.ensures.refused in
    let kept = ap length keeps.texts in
    let texts_then = c.loop-tokens.invariant.texts in
    let few = c.requires.texts in
    record { room = omega (arith, kept, grows, falls, texts_then, few) }

pub returns-in-Err-Refused-clause-answers : goal.returns-in-Err-Refused-clause-answers
returns-in-Err-Refused-clause-answers c =
    let machine = c.loop-tokens.self in
    let one = rw c.in-Some.is at c.in_ok-token.ensures.answers in
    let same = same_state machine.room machine.wants machine.maker.values machine.maker.package c.next.new.parsed c.in_ok-token.ensures.same in
    let keeps = rw c.in-Err-Refused.field-0-is at c.in-Err-Refused.ensures.refused in
    let answers = rw c.in-Err-Refused.field-0-is at c.in-Err-Refused.ensures.answers in
    so_far_refused c.args.number c.args.most c.args.bytes.now c.args.self.now.maker.package c.loop-tokens.tokens c.next.new.self machine.maker.package.texts c.next.new.parsed.texts c.read_token.new.self.maker.package.texts c.pass_over.new.parsed.texts
    c.in-Some.token c.loop-tokens.most (state_of machine) (state_with machine.room machine.wants machine.maker.values c.next.new.parsed) c.in-Err-Refused.rule _
    c.loop-tokens.invariant.read same one keeps.texts answers c.in_ok-pass_over-in-Err-Refused.ensures refl

pub returns-in_err-end_file-clause-answers : goal.returns-in_err-end_file-clause-answers
returns-in_err-end_file-clause-answers c =
    let machine = c.loop-tokens.self in
    let p = err_from_is_err_and c.from_residual-in_err-end_file.result c.from_residual-in_err-end_file.ensures.1 in
    let over = rw c.in_default.is at c.in_ok-token.ensures.answers in
    let same = same_state machine.room machine.wants machine.maker.values machine.maker.package c.next.new.parsed c.in_ok-token.ensures.same in
    rw (p.1, p.2) (end_fault c.args.number c.args.most c.args.bytes.now c.args.self.now.maker.package c.end_file.new.self.maker.package c.loop-tokens.tokens c.next.new.self machine.maker.package.texts c.next.new.parsed.texts
    c.loop-tokens.most (state_of machine) (state_with machine.room machine.wants machine.maker.values c.next.new.parsed) (state_of c.end_file.new.self) c.end.result c.in_err-end_file.field-0.0
    c.loop-tokens.invariant.read over same c.end.ensures c.in_err-end_file.ensures.answers)

pub returns-clause-answers : goal.returns-clause-answers
returns-clause-answers c =
    let machine = c.loop-tokens.self in
    let over = rw c.in_default.is at c.in_ok-token.ensures.answers in
    let same = same_state machine.room machine.wants machine.maker.values machine.maker.package c.next.new.parsed c.in_ok-token.ensures.same in
    let keeps = c.in_ok-end_file.ensures.texts in
    so_far_read c.args.number c.args.most c.args.bytes.now c.args.self.now.maker.package c.end_file.new.self.maker.package c.loop-tokens.tokens machine.maker.package.texts c.loop-tokens.most (state_of machine) (made c.end_file.new.self.maker)
    c.loop-tokens.invariant.read over.0 (ap (λ (s : State). ends s.wants s.made) (sym same) ∙ c.in_ok-end_file.ensures.answers) refl
    (keeps.name ∙ ap (λ (p : Parsed). p.name) c.in_ok-token.ensures.same ∙ c.loop-tokens.invariant.named) (keeps.texts ∙ over.2)
