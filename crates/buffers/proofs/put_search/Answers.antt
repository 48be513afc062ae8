use Rattle.buffers.specs.Buffers.{candidate_numbers}
use Rattle.buffers.proofs.Replies.{put_on}
use Rattle.buffers.proofs.put_search.Goals as goal

pub returns : goal.returns
returns c =
    put_on _ _ _ (candidate_numbers c.args.a.list 0 15) c.args.s.now c.requires c.put-no.ensures c.put_candidates.ensures
