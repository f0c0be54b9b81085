-- A machine's store before, during and after a host's call.
use Rattle.std.proofs.Common.{◌≡◌, ℕ, ◌+◌, ◌-◌, ◌<◌, ◌≤◌, length, refl, sym, subst, ◌∙◌, arith}
use Rattle.std.specs.Prelude.{vec_capacity}
use Rattle.c_mem.specs.declared.mem.Mem.{Mem}
use Rattle.c_mem.specs.MemoryViews.{memory, HasRoom}
use Rattle.c_step_exprs.specs.Stacks.{on_stack, most}
use Rattle.c_step_run.specs.declared.store.Store.{Store}
use Rattle.c_step_run.specs.Coding.{CodeView}
use Rattle.c_step_run.specs.Ready.{RestBelow, CanEnter, KeepsShape}
use Rattle.c_step_run.proofs.Rooms.{fewer_objects, rest_fewer}
use Rattle.c_step_calls.specs.declared.room.Spares.{Spares}
use Rattle.c_step_calls.specs.declared.room.Room.{Room}
use Rattle.c_step_calls.specs.Resting.{AreSpare, TakesSpares, TakesMore, GivesSpares, IsResting, RestsAgain}
use Rattle.c_step_calls.proofs.Shapes.{same_length}

module _ (c : CodeView) (room : Room) (old : Store) (rests : IsResting c room old) (len : ℕ) (few : len ≤ room.most) where
  pub room_to_lend : HasRoom old.mem (room.most + len)
  room_to_lend = fewer_objects old.mem (room.most + room.most + length c.functions) (room.most + len) (omega (arith, few)) rests.fits

  pub room_to_enter : (own : ℕ) → own < length c.functions → HasRoom old.mem ((own + 1) + (room.most + len))
  room_to_enter own h = fewer_objects old.mem (room.most + room.most + length c.functions) ((own + 1) + (room.most + len)) (omega (arith, few, h)) rests.fits

  pub can_enter : (st : Store) (own frame : ℕ) → own < length c.functions → st.frames.items ≡ old.frames.items → st.args.items ≡ old.args.items → most old.stack ≤ most st.stack
      → ((more : ℕ) → HasRoom old.mem (more + (room.most + len)) → HasRoom st.mem more) → length (memory st.mem) ≡ frame → CanEnter c (record { own = own; frame = frame }) st
  can_enter st own frame h fs as_ ms lent size = record {
    within = h;
    ranked = rests.ranked;
    arguments = subst (RestBelow (own + 1)) (sym as_) (rest_fewer (length c.functions) (own + 1) old.args.items (omega (arith, h)) rests.arguments);
    frames = subst (RestBelow (own + 1)) (sym fs) (rest_fewer (length c.functions) (own + 1) old.frames.items (omega (arith, h)) rests.frames);
    objects = lent (own + 1) (room_to_enter own h);
    values = let v = rests.values own in omega (arith, v, ms);
    last = sym size;
  }

  -- What is taken is given back.
  pub more_fits : (now : Spares) (k : ℕ) → k ≡ room.most → TakesSpares room.most len room.spares now → TakesMore k len now
  more_fits now k e t = record {
    ios_are = t.ios_are;
    bytes_are = t.bytes_are;
    fits = omega (arith, e, t.fewer, t.kept, rests.spares.within);
    fits_bytes = omega (arith, t.fewer_bytes, t.kept_bytes, rests.spares.within_bytes);
  }

  spare_again : (mid now : Spares) (k : ℕ) → k ≡ room.most → TakesSpares room.most len room.spares mid → GivesSpares k len mid now → AreSpare room.most now
  spare_again mid now k e t g = record {
    ios = g.ios_are;
    many = omega (arith, e, g.more, t.fewer, rests.spares.many);
    bytes = g.bytes_are;
    many_bytes = omega (arith, g.more_bytes, t.fewer_bytes, rests.spares.many_bytes);
    within = omega (arith, e, g.more, g.kept, t.fewer, t.kept, rests.spares.within);
    within_bytes = omega (arith, g.more_bytes, g.kept_bytes, t.fewer_bytes, t.kept_bytes, rests.spares.within_bytes);
  }

  room_again : (mid mem now : Mem) (k : ℕ) → k ≡ room.objects + room.most → ((more : ℕ) → HasRoom old.mem (more + (room.most + len)) → HasRoom mid more) → ((more : ℕ) → HasRoom mid more → HasRoom mem more)
      → ((more now_ : ℕ) → HasRoom mem more → now_ + room.objects ≡ more + (k + len) → HasRoom now now_) → HasRoom now (room.most + room.most + length c.functions)
  room_again mid mem now k e lent kept left =
      left ((room.most - len) + length c.functions) (room.most + room.most + length c.functions)
      (kept ((room.most - len) + length c.functions) (lent ((room.most - len) + length c.functions) (fewer_objects old.mem (room.most + room.most + length c.functions) ((room.most - len) + length c.functions + (room.most + len)) (omega (arith, few)) rests.fits)))
      (omega (arith, few, e))

  pub rests_again : (st1 st2 st : Store) (now : Room) (mid : Spares) (k j : ℕ) → st1.frames.items ≡ old.frames.items → st1.args.items ≡ old.args.items → most old.stack ≤ most st1.stack
      → ((more : ℕ) → HasRoom old.mem (more + (room.most + len)) → HasRoom st1.mem more) → KeepsShape st1 st2
      → st.frames.items ≡ st2.frames.items → st.args.items ≡ st2.args.items → on_stack st.stack ≡ on_stack st2.stack → most st2.stack ≤ most st.stack
      → k ≡ room.objects + room.most → ((more now_ : ℕ) → HasRoom st2.mem more → now_ + room.objects ≡ more + (k + len) → HasRoom st.mem now_) → length (memory st.mem) ≡ room.objects
      → j ≡ room.most → TakesSpares room.most len room.spares mid → GivesSpares j len mid now.spares → vec_capacity room.given ≤ vec_capacity now.given → now.objects ≡ room.objects → now.most ≡ room.most
      → RestsAgain c room now old st
  rests_again st1 st2 st now mid k j f1 a1 m1 lent keeps f2 a2 s2 m2 ke left size je t g gs eo em =
      let frames : st.frames.items ≡ old.frames.items = f2 ∙ (keeps.room.frames ∙ f1) in
      let args : st.args.items ≡ old.args.items = a2 ∙ (keeps.room.arguments ∙ a1) in
      let v1 = keeps.room.values in
      record {
        rests = record {
          ranked = rests.ranked;
          arguments = subst (RestBelow (length c.functions)) (sym args) rests.arguments;
          frames = subst (RestBelow (length c.functions)) (sym frames) rests.frames;
          objects = size ∙ sym eo;
          fits = subst (λ (n : ℕ). HasRoom st.mem (n + n + length c.functions)) (sym em) (room_again st1.mem st2.mem st.mem k ke lent keeps.room.objects left);
          numbers = let n = rests.numbers in omega (arith, n, eo, em);
          values = λ own. let v = rests.values own in omega (arith, v, m1, v1, m2);
          passed = let v = rests.passed in omega (arith, v, em, m1, v1, m2);
          empty = s2 ∙ keeps.empty;
          given = let v = rests.given in omega (arith, v, em, gs);
          spares = subst (λ (n : ℕ). AreSpare n now.spares) (sym em) (spare_again mid now.spares j je t g);
        };
        frames = frames;
        args = args;
        most = em;
      }

-- An init lends nothing.
pub rests_after_init : (c : CodeView) (room : Room) (old st : Store) → IsResting c room old → KeepsShape old st → RestsAgain c room room old st
rests_after_init c room old st rests keeps =
    let v1 = keeps.room.values in
    record {
      rests = record {
        ranked = rests.ranked;
        arguments = subst (RestBelow (length c.functions)) (sym keeps.room.arguments) rests.arguments;
        frames = subst (RestBelow (length c.functions)) (sym keeps.room.frames) rests.frames;
        objects = same_length (memory st.mem) (memory old.mem) keeps.shape ∙ rests.objects;
        fits = keeps.room.objects (room.most + room.most + length c.functions) rests.fits;
        numbers = rests.numbers;
        values = λ own. let v = rests.values own in omega (arith, v, v1);
        passed = let v = rests.passed in omega (arith, v, v1);
        empty = keeps.empty;
        given = rests.given;
        spares = rests.spares;
      };
      frames = keeps.room.frames;
      args = keeps.room.arguments;
      most = refl;
    }
