use Rattle.std.proofs.Common.{rules}
use Rattle.std.proofs.lemmas.List.FromFn.{fill_by_all}
use Rattle.definition.specs.Machine.{zero_frame}
use Rattle.host.specs.Layout.{numbered_frame}
use Rattle.host.proofs.layout.numbered_context.Goals as goal

pub returns : goal.returns
returns c =
    let made = c.from_fn.ensures.items in
    rw (
      c.numbered_file.ensures,
      c.numbered_settings.ensures,
      fill_by_all numbered_frame c.from_fn.result 31 zero_frame made.long (λ k h. let called = made.at k zero_frame h in search rules),
    )
