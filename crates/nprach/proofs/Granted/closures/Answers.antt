use Rattle.nprach.specs.Quick.{closures_of}
use Rattle.nprach.proofs.Listing.{listed_1, listed_2, listed_3, listed_4}
use Rattle.nprach.proofs.Granted.closures.Goals as goal

pub closure-requires : goal.closure-requires
closure-requires c = listed_1 c.args.ws c.requires

pub closure-requires-2 : goal.closure-requires-2
closure-requires-2 c = listed_2 c.args.ws c.requires

pub closure-requires-3 : goal.closure-requires-3
closure-requires-3 c = listed_3 c.args.ws c.requires

pub closure-requires-4 : goal.closure-requires-4
closure-requires-4 c = listed_4 c.args.ws c.requires

pub returns : goal.returns
unfolding closures_of
returns c = λ j. record {
  b1 = c.closure.ensures j;
  b2 = c.closure-2.ensures j;
  b3 = c.closure-3.ensures j;
  b4 = c.closure-4.ensures j;
}
