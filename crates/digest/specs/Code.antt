-- What the functions of a digest answer. Assumes nothing.
--
--   digest_of d == the program's digest as the call's
--   digesting r == the program's reply as the call's
use Rattle.std.specs.Prelude.{Result}
use Rattle.graph.specs.declared.refusal.Refusal.{Refusal}
use Rattle.graph.specs.Refusal.{Reply}
use Rattle.graph.specs.Code.{reply_of}
use Rattle.digest.specs.declared.Digest as declared
use Rattle.answers.specs.Digest.{Digest}

abbrev pub digest_of : declared.Digest → Digest
digest_of d = record { gained = d.gained; lost = d.lost; better = d.better; worse = d.worse; most = d.most }

abbrev pub digesting : Result declared.Digest Refusal → Reply Digest
digesting r = reply_of digest_of r
