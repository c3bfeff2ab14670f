use native.Mathlib.Omega.{arith}
use mathlib.Core.Path.{refl}
use lib.ListN.{length}
use Rattle.std.proofs.lemmas.Slice.{put_mid-paste}
use borrow.Author.Rules.{rules}
use Rattle.call_words.proofs.laying.lay.Goals as goal

pub returns : goal.returns
returns c =
    let what = c.args.what.now in
    record { is = put_mid-paste _ _ _ _ what (length what) c.copy_from_slice.ensures.after (omega arith) refl; within = omega arith; long = search rules }
