use Rattle.std.proofs.Common.{refl}
use Rattle.console_store.proofs.Images.{appended}
use Rattle.console_store.proofs.appending.append.Goals as goal

pub returns-clause-appended : goal.returns-clause-appended
returns-clause-appended g c fits =
    appended c.args.bytes.now _ _ _ c.length-len.result _ c.length-len.ensures.length refl c.in_ok-store_words.ensures.rest c.in_ok-store_words.ensures.bytes c.in_ok-store.ensures.stored
