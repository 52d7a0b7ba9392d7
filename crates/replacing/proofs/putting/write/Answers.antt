use Rattle.replacing.proofs.LawsAdding.{added_as}
use Rattle.replacing.proofs.LawsPutting.{made_words, made_long, handed_long, handed_as}
use Rattle.replacing.proofs.putting.write.Goals as goal

pub returns-in-None : goal.returns-in-None
returns-in-None c = handed_long _ _ _ (made_long (added_as c.in-None.is c.make.ensures))

pub returns-in-Some : goal.returns-in-Some
returns-in-Some c =
    handed_as _ _ (made_words (added_as c.in-Some.is c.make.ensures)) c.hand_over.ensures
