use Rattle.std.proofs.Common.{ℕ, ◌-◌, ◌≡◌, sym, ◌∙◌, arith}
use Rattle.read_types.proofs.Filled.{same, ◌upon◌, kept_set}
use Rattle.read_types.proofs.Listing.{put_next, list_none}
use Rattle.read_types.proofs.store.put_list.Goals as goal

pub loop-i-init : goal.loop-i-init
loop-i-init c = record { words = search arith; stays = same }

pub loop-i-preserved : goal.loop-i-preserved
loop-i-preserved c = record {
  words = put_next c.args.kept.now c.args.n c.args.at c.loop-i.i c.loop-i.scratch (omega arith) c.loop-i.invariant.words;
  stays = kept_set _ _ _ (omega arith) upon c.loop-i.invariant.stays;
}

pub returns : goal.returns
returns c = record {
  words = sym (list_none c.args.kept.now (c.args.n - c.loop-i.i) _ c.loop-i.scratch (omega arith)) ∙ c.loop-i.invariant.words;
  kept = c.loop-i.invariant.stays;
}
