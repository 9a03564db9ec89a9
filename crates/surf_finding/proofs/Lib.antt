mod CertifyLaws
mod CycleLaws
mod FindingLaws
mod HeadLaws
mod SummaryLaws
