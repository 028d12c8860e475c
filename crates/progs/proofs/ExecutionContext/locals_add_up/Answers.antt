use Rattle.std.proofs.Common.{[], ◌∷◌, ◌∙◌, rules, arith, length-append}
use Rattle.definition.specs.Load.{program_of}
use Rattle.progs.proofs.FileLaws.{function_absent, function_there}
use Rattle.progs.proofs.StateLaws.{next_frame, no_frame, add_absent, add_negative, add_on, add_none, add_start}
use Rattle.progs.proofs.ExecutionContext.locals_add_up.Goals as goal

pub returns-then-self-f : goal.returns-then-self-f
returns-then-self-f c =
    let t = next_frame c.args.self.now.depth c.args.self.now.frames (search rules) _ (search rules) c.loop-frame.yielded _ c.loop-frame.yielded_by _ _ c.next.ensures.steps _ c.in-Some.is in
    add_absent _ _ _ _ _ _ t.0 (function_absent _ _ c.requires.loaded _ c.if-self-f.true) ∙ c.loop-frame.invariant.1 ∙ add_start (program_of c.args.file.now) c.args.self.now

pub returns-then-def-ge2147483648 : goal.returns-then-def-ge2147483648
returns-then-def-ge2147483648 c =
    let t = next_frame c.args.self.now.depth c.args.self.now.frames (search rules) _ (search rules) c.loop-frame.yielded _ c.loop-frame.yielded_by _ _ c.next.ensures.steps _ c.in-Some.is in
    add_negative _ _ _ _ _ _ t.0 _ (function_there _ _ c.requires.loaded _ c.if-self-f.false) c.get_def-def.ensures c.if-def-ge2147483648.true
    ∙ c.loop-frame.invariant.1
    ∙ add_start (program_of c.args.file.now) c.args.self.now

pub loop-frame-preserved : goal.loop-frame-preserved
loop-frame-preserved c =
    let t = next_frame c.args.self.now.depth c.args.self.now.frames (search rules) _ (search rules) c.loop-frame.yielded _ c.loop-frame.yielded_by _ _ c.next.ensures.steps _ c.in-Some.is in
    let n = length-append c.loop-frame.yielded (c.in-Some.frame ∷ []) in (
      omega (arith, n, c.loop-frame.invariant.0),
      add_on _ _ _ _ _ _ t.0 _ (function_there _ _ c.requires.loaded _ c.if-self-f.false) c.get_def-def.ensures c.if-def-ge2147483648.false _ _ (omega (arith, n)) t.1 ∙ c.loop-frame.invariant.1,
    )

pub returns : goal.returns
returns c =
    let e = no_frame c.args.self.now.depth c.args.self.now.frames (search rules) _ (search rules) c.loop-frame.yielded _ c.loop-frame.yielded_by _ _ c.next.ensures.steps c.in-None.is in
    add_none (program_of c.args.file.now) _ _ _ _ _ e ∙ c.loop-frame.invariant.1 ∙ add_start (program_of c.args.file.now) c.args.self.now
