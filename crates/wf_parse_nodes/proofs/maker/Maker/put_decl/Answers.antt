use Rattle.std.proofs.Common.{refl}
use Rattle.wf_parse_nodes.specs.Products as makes
use Rattle.wf_parse_nodes.proofs.Performing.{decl_put, decl_sound}
use Rattle.wf_parse_nodes.proofs.maker.Maker.put_decl.Goals as goal

pub returns-clause-made : goal.returns-clause-made
returns-clause-made c =
    decl_put c.args.self.now c.requires.sound (makes.Decl c.args.node) c.push_decl.new.self c.args.self.now.values c.args.node refl c.in_ok-push_decl.ensures.ok refl

pub returns-clause-sound : goal.returns-clause-sound
returns-clause-sound c =
    decl_sound c.args.self.now (record { alloc = c.args.self.now.alloc; «package» = c.push_decl.new.self; values = c.args.self.now.values }) c.requires.sound (makes.Decl c.args.node) c.requires.parts c.args.node refl c.in_ok-push_decl.ensures.ok refl
